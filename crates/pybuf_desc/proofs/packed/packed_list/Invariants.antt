use Rattle.std.proofs.Common.{◌≡◌, ◌*◌, ◌++◌, ◌<◌, ◌^◌, drop}
use Rattle.pybuf_desc.specs.Layouts.{product}
use Rattle.pybuf_desc.specs.Descriptor.{shape_of}
use Rattle.pybuf_desc.specs.Valid.{nonzero_entries}
use Rattle.pybuf_desc.specs.RowMajor.{row_major_dims}
use Rattle.pybuf_desc.proofs.packed.packed_list.Given as goal

abbrev pub invariant-loop-dim : goal.invariant-loop-dim
invariant-loop-dim l =
    (l.size ≡ l.itemsize * product (nonzero_entries (shape_of (drop l.dim-index l.dims)))) × (l.size < 2 ^ 63)
    × (l.packed ++ row_major_dims l.itemsize (shape_of (drop l.dim-index l.dims)) ≡ row_major_dims l.itemsize (shape_of l.dims))
