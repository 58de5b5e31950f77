use Rattle.std.proofs.Common.{◌≡◌, ◌*◌, ◌++◌, drop}
use Rattle.pybuf_desc.specs.Layouts.{product}
use Rattle.pybuf_desc.specs.ColumnMajor.{column_major_dims}
use Rattle.pybuf_desc.proofs.casts.column_major_list.Given as goal

abbrev pub invariant-loop-n : goal.invariant-loop-n
invariant-loop-n l =
    (l.size * product (drop l.n-index l.shape) ≡ l.itemsize * product l.shape) × (l.dims ++ column_major_dims l.size (drop l.n-index l.shape) ≡ column_major_dims l.itemsize l.shape)
