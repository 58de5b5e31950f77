-- An address may go to another thread: what it owns names no thread. Assumes nothing.
use mir.Raw.{raw}
use base.Shift.{Keyless}
use denote.Memory.{lone}
use denote.RawPtr.{Ptr}
use denote.Param.Send.{IsSend, AllSend, owning_send, struct_send, sendable}
use denote.Struct.Owning.{shape, fields, to}
use denote.Struct.Struct.{exits_of}
use Rattle.std.specs.Prelude.{Bool, true, false}
use Rattle.std.specs.Global.{Global}
use Rattle.std_alloc.proofs.SendSync.{quiet, lies}
use Rattle.std_heap.proofs.GlobalAllocator.TheSendSync as allocator
use Rattle.pybuf_packer.specs.Packer.{Packer}
use Rattle.pybuf_packer.specs.Owned.{address_owns}
use Rattle.pybuf_packer.specs.contracts.packer.Packer as of_packer
use Rattle.pybuf_packer.proofs.packer.Packer.TheSendSync as packer
use Rattle.pybuf_packer.specs.contracts.address.PackerAddress.{the_row, the_type}

owned : (alloc : Global) (at : Ptr) (full : Bool) (x : Packer) → Keyless (address_owns alloc at full x)
owned alloc at false x = tt
owned alloc at true x = (lies of_packer.the_row packer.the_send at x, allocator.the_frees.frees alloc (raw (lone of_packer.the_row.mir)) at)

pub send : IsSend the_row
send = let all : AllSend (fields the_type) = (search sendable, (search sendable, tt)) in
    owning_send the_type all (λ d. owned d.alloc d.at d.full d.packer) (λ k. quiet (to the_type) (exits_of k (fields the_type)) ((struct_send (shape the_type) all).leaving k))
