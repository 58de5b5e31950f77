-- The list that the kept dimensions of a descriptor stand for.
use Rattle.std.specs.Prelude.{ℕ, ℤ, List}
use Rattle.pybuf_desc.specs.declared.dims.KeptDims.{KeptDims}
use Rattle.pybuf_desc.specs.declared.dims.KeptDims.TheVariants as kept

abbrev pub dims_of : KeptDims → List (ℕ × ℤ × ℤ)
dims_of (kept.One dims) = dims
dims_of (kept.Two dims) = dims
dims_of (kept.Three dims) = dims
dims_of (kept.Many dims) = dims
