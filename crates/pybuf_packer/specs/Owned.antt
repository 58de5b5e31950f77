-- What memory the address of a packer owns.
use base.Fml.{Fml, ftrue}
use base.Stored.{Coded}
use denote.RawPtr.{Ptr}
use Rattle.std.specs.Prelude.{Bool, true, false}
use Rattle.std.specs.Box.Ownership.{box_owns}
use Rattle.std.specs.Global.{Global}
use Rattle.std_heap.specs.contracts.GlobalAllocator.TheImpl.{ghosts}
use Rattle.pybuf_packer.specs.Packer.{Packer}
use Rattle.pybuf_packer.specs.contracts.packer.Packer.{the_row}

abbrev pub packer_coded : Coded Packer
packer_coded = the_row.coded

-- An empty address owns nothing, and any other owns the block of its packer.
abbrev pub address_owns : Global → Ptr → Bool → Packer → Fml
address_owns alloc at false packer = ftrue
address_owns alloc at true packer = box_owns (ghosts.dealloc_token alloc) the_row at packer
