-- Values of fields that are read where they lie.
use Rattle.pybuf_value.specs.declared.values.Scalar.{Scalar}
use Rattle.pybuf_value.specs.declared.values.Scalar.TheVariants as scalar
use Rattle.pybuf_table.specs.declared.lent_values.LentValue.{LentValue}
use Rattle.pybuf_table.specs.declared.lent_values.LentValue.TheVariants as lent

-- the value that is lent, which is a number or bytes
abbrev pub scalar_of : LentValue → Scalar
scalar_of (lent.Number n) = scalar.Int n
scalar_of (lent.Bytes bytes) = scalar.Bytes bytes.now
