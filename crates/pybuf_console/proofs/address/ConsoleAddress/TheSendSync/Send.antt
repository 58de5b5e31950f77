-- An address may go to another thread: what it owns names no thread. Assumes nothing.
use mir.Raw.{raw}
use base.Shift.{Keyless}
use denote.Memory.{lone}
use denote.RawPtr.{Ptr}
use denote.Param.Send.{IsSend, AllSend, owning_send, struct_send, sendable}
use denote.Struct.Owning.{shape, fields, to}
use denote.Struct.Struct.{exits_of}
use Rattle.std.specs.Prelude.{Bool, true, false}
use Rattle.std.specs.Global.{Global}
use Rattle.std_alloc.proofs.SendSync.{quiet, lies}
use Rattle.std_heap.proofs.GlobalAllocator.TheSendSync as allocator
use Rattle.pybuf_console.specs.Console.{Console}
use Rattle.pybuf_console.specs.Owned.{address_owns}
use Rattle.pybuf_console.specs.contracts.console.Console as of_console
use Rattle.pybuf_console.proofs.console.Console.TheSendSync as console
use Rattle.pybuf_console.specs.contracts.address.ConsoleAddress.{the_row, the_type}

owned : (alloc : Global) (at : Ptr) (full : Bool) (x : Console) → Keyless (address_owns alloc at full x)
owned alloc at false x = tt
owned alloc at true x = (lies of_console.the_row console.the_send at x, allocator.the_frees.frees alloc (raw (lone of_console.the_row.mir)) at)

pub send : IsSend the_row
send = let all : AllSend (fields the_type) = (search sendable, (search sendable, tt)) in
    owning_send the_type all (λ d. owned d.alloc d.at d.full d.console) (λ k. quiet (to the_type) (exits_of k (fields the_type)) ((struct_send (shape the_type) all).leaving k))
