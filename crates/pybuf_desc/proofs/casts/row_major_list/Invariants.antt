use Rattle.std.proofs.Common.{◌≡◌, ◌*◌, ◌++◌, ◌<◌, ◌^◌, drop}
use Rattle.pybuf_desc.specs.Layouts.{product}
use Rattle.pybuf_desc.specs.RowMajor.{row_major_dims}
use Rattle.pybuf_desc.proofs.casts.row_major_list.Given as goal

abbrev pub invariant-loop-n : goal.invariant-loop-n
invariant-loop-n l =
    (l.size ≡ l.itemsize * product (drop l.n-index l.shape)) × (l.size < 2 ^ 63) × (l.dims ++ row_major_dims l.itemsize (drop l.n-index l.shape) ≡ row_major_dims l.itemsize l.shape)
