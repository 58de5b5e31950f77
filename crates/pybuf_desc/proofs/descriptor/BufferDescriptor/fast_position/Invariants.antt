use Rattle.std.proofs.Common.{◌≡◌, ◌+ℤ◌, drop}
use Rattle.pybuf_desc.specs.Positions.{AreIndices, offset_of}
use Rattle.pybuf_desc.proofs.Track.{Track}
use Rattle.pybuf_desc.proofs.descriptor.BufferDescriptor.fast_position.Given as goal

abbrev pub invariant-loop-k : goal.invariant-loop-k
invariant-loop-k l =
    Track (drop l.k l.dims) l.offset
    × AreIndices (drop l.k l.indices) (drop l.k l.dims)
    × (offset_of l.indices l.dims ≡ l.offset +ℤ offset_of (drop l.k l.indices) (drop l.k l.dims))
