-- A query asks for a comparison of a field of each record, and words spell it.
use Rattle.std.specs.Prelude.{ℕ, ◌^◌, ℤ, ◌&&◌, not, Bool, false, List, slice_get, Option, Some, None}
use Rattle.pybuf_value.specs.Choosing.{◌>>=◌}
use Rattle.pybuf_value.specs.declared.values.Scalar.{Scalar}
use Rattle.pybuf_value.specs.declared.values.Scalar.TheVariants as scalar
use Rattle.pybuf_value.specs.declared.values.CompareOp.{CompareOp}
use Rattle.pybuf_value.specs.Order.{is_order}
use Rattle.pybuf_struct.specs.Formats.{Format, Field, fields}
use Rattle.pybuf_table.specs.Chosen.{has_bytes}
use Rattle.pybuf_line.specs.Scalars.{number_below, handle_in, scalar_in}
use Rattle.pybuf_line.specs.Words.{operator_in}
use Rattle.pybuf_table_lines.specs.declared.queries.Query.{Query}

-- the number of a value, if the value is a number
abbrev pub integer_of : Scalar → Option ℤ
integer_of (scalar.Int n) = Some n
integer_of _ = None

-- a whole number, spelled as on other lines
abbrev pub integer_in : List ℕ → Option ℤ
integer_in word = do
  v ← scalar_in handle_in word
  integer_of v

-- A query by its three words. They are the number of a field in decimal digits, below 2^64, an operator as in
-- `compare`, and a whole number.
abbrev pub query_in : List ℕ → List ℕ → List ℕ → Option Query
query_in field operator number = do
  k ← number_below (2 ^ 64) field
  o ← operator_in operator
  n ← integer_in number
  Some (record { field = k; op = o; number = n })

-- Whether an operator compares the values of a field with numbers. Bytes have no order with a number.
abbrev pub may_compare : CompareOp → Option Field → Bool
may_compare o None = false
may_compare o (Some place) = not (is_order o && has_bytes place.code)

-- Whether a query may be asked of records. They must have the field, and an order needs a field of numbers or
-- truth values.
abbrev pub may_be_asked : Format → Query → Bool
may_be_asked f q = may_compare q.op (slice_get (fields f) q.field)
