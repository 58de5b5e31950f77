-- What memory the address of a console owns.
use base.Fml.{Fml, ftrue}
use base.Stored.{Coded}
use denote.RawPtr.{Ptr}
use Rattle.std.specs.Prelude.{Bool, true, false}
use Rattle.std.specs.Box.Ownership.{box_owns}
use Rattle.std.specs.Global.{Global}
use Rattle.std_heap.specs.contracts.GlobalAllocator.TheImpl.{ghosts}
use Rattle.pybuf_console.specs.Console.{Console}
use Rattle.pybuf_console.specs.contracts.console.Console.{the_row}

abbrev pub console_coded : Coded Console
console_coded = the_row.coded

-- An empty address owns nothing, and any other owns the block of its console.
abbrev pub address_owns : Global → Ptr → Bool → Console → Fml
address_owns alloc at false console = ftrue
address_owns alloc at true console = box_owns (ghosts.dealloc_token alloc) the_row at console
