use Rattle.std.proofs.Common.{◌≡◌, drop}
use Rattle.pybuf_desc.specs.Positions.{position_of}
use Rattle.pybuf_desc.proofs.Track.{Track}
use Rattle.pybuf_desc.proofs.Indices.{position_from}
use Rattle.pybuf_desc.proofs.descriptor.BufferDescriptor.position.Given as goal

abbrev pub invariant-loop-k : goal.invariant-loop-k
invariant-loop-k l =
    Track (drop l.k l.dims) l.offset
    × (position_of l.indices l.dims ≡ position_from l.offset (position_of (drop l.k l.indices) (drop l.k l.dims)))
