-- Records that are chosen by the value of one of their fields.
use Rattle.std.specs.Prelude.{ℕ, Bool, true, false, not, ◌&&◌, List, slice_get, Option, Some, None, Result, Ok, Err}
use Rattle.std.specs.Option.{ok_or}
use Rattle.std.specs.List.{filter, enumerate_from}
use Rattle.std.specs.declared.cmp.Ordering.{Ordering}
use Rattle.pybuf_value.specs.declared.faults.Fault.{Fault}
use Rattle.pybuf_value.specs.declared.faults.Fault.TheVariants as fault
use Rattle.pybuf_value.specs.declared.values.CompareOp.{CompareOp}
use Rattle.pybuf_value.specs.declared.values.CompareOp.TheVariants as op
use Rattle.pybuf_value.specs.declared.values.Scalar.{Scalar}
use Rattle.pybuf_value.specs.declared.values.Scalar.TheVariants as scalar
use Rattle.pybuf_value.specs.Equality.{same_scalar}
use Rattle.pybuf_value.specs.Order.{answers, is_order, order_of_scalars}
use Rattle.pybuf_value.specs.Refusing.{◌>>=◌, unless}
use Rattle.pybuf_struct.specs.declared.table.FormatType.{FormatType}
use Rattle.pybuf_struct.specs.declared.table.FormatType.TheVariants as code
use Rattle.pybuf_struct.specs.Formats.{Format, Field, fields}
use Rattle.pybuf_table.specs.Records.{rows, is_whole}

-- ---- comparisons

-- what an operator answers for two values that have an order, and false if they have none
abbrev pub holds_in : CompareOp → Result Ordering Fault → Bool
holds_in o (Ok order) = answers o order
holds_in o (Err f) = false

-- What an operator answers for two values. `==` and `!=` compare any two. An order compares two numbers, of
-- which a truth value is 0 or 1, or two strings of bytes.
abbrev pub compares : CompareOp → Scalar → Scalar → Bool
compares op.Eq left right = same_scalar left right
compares op.Ne left right = not (same_scalar left right)
compares o left right = holds_in o (order_of_scalars left right)

-- ---- choosing

-- whether there is a value and it compares as wanted
abbrev pub compares_so : CompareOp → Scalar → Option Scalar → Bool
compares_so o wanted (Some v) = compares o v wanted
compares_so o wanted None = false

-- whether a field of a record compares as wanted, if the record is given by its number and its values
abbrev pub is_chosen : ℕ → CompareOp → Scalar → ℕ × List Scalar → Bool
is_chosen field o wanted row = compares_so o wanted (slice_get row.1 field)

-- The records whose field compares as wanted, each with its number, in order. All records are unpacked, and
-- then those that don't compare so are left out.
abbrev pub chosen : Format → ℕ → CompareOp → Scalar → List ℕ → List (ℕ × List Scalar)
chosen f field o wanted bytes = filter (is_chosen field o wanted) (enumerate_from 0 (rows f bytes))

-- ---- what may be chosen by

-- the field that has this number
abbrev pub field_in : Format → ℕ → Result Field Fault
field_in f field = ok_or (slice_get (fields f) field) fault.Index

-- whether a code has a value, which all codes but `x` have
abbrev pub has_value : FormatType → Bool
has_value code.Pad = false
has_value _ = true

-- whether the values of a code are bytes, and not numbers or truth values
abbrev pub has_bytes : FormatType → Bool
has_bytes code.Char = true
has_bytes code.Str = true
has_bytes code.Pascal = true
has_bytes _ = false

-- whether a value has an order with the values of a code: both are numbers or truth values, or both are bytes
abbrev pub has_order : FormatType → Scalar → Bool
has_order c (scalar.Bytes bytes) = has_bytes c
has_order c (scalar.Int n) = not (has_bytes c)
has_order c (scalar.Bool b) = not (has_bytes c)
has_order c _ = false

-- The chosen records. A field that isn't there is refused first, then bytes that aren't whole records, and then
-- an order between values that have none, even if there is no record.
abbrev pub selected : Format → ℕ → CompareOp → Scalar → List ℕ → Result (List (ℕ × List Scalar)) Fault
selected f field o wanted bytes = do
  place ← field_in f field
  _ ← unless (not (is_whole f bytes)) fault.Struct
  _ ← unless (is_order o && not (has_order place.code wanted)) fault.Kind
  Ok (chosen f field o wanted bytes)
