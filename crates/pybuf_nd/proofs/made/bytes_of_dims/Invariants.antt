use Rattle.std.proofs.Common.{◌≡◌, ◌*◌, ◌<◌, ◌^◌, drop}
use Rattle.pybuf_desc.specs.Layouts.{product}
use Rattle.pybuf_desc.specs.Descriptor.{shape_of}
use Rattle.pybuf_desc.specs.Valid.{nonzero_entries}
use Rattle.pybuf_nd.proofs.made.bytes_of_dims.Given as goal

abbrev pub invariant-loop-dim : goal.invariant-loop-dim
invariant-loop-dim l =
    (l.bytes * product (shape_of (drop l.dim-index l.dims)) ≡ l.itemsize * product (shape_of l.dims))
    × (l.bytes * product (nonzero_entries (shape_of (drop l.dim-index l.dims))) < 2 ^ 63)
