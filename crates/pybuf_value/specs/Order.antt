-- How bytes are ordered, and what Python's comparison operators answer ("Value comparisons" of the
-- language reference).
use Rattle.std.specs.Prelude.{ℕ, ◌==◌, Bool, true, false, nat_lt, not, List, [], ◌∷◌, Result, Ok, if◌then◌else◌}
use Rattle.std.specs.Ordering.{is_lt, is_le, is_eq, is_ge, is_gt, int_cmp}
use Rattle.std.specs.declared.cmp.Ordering.{Ordering}
use Rattle.std.specs.declared.cmp.Ordering.TheVariants.{Less, Equal, Greater}
use Rattle.pybuf_value.specs.declared.faults.Fault.{Fault}
use Rattle.pybuf_value.specs.Refusing.{◌>>=◌}
use Rattle.pybuf_value.specs.Numbers.{number_in}
use Rattle.pybuf_value.specs.declared.values.Scalar.{Scalar}
use Rattle.pybuf_value.specs.declared.values.Scalar.TheVariants as scalar
use Rattle.pybuf_value.specs.declared.values.CompareOp.{CompareOp}
use Rattle.pybuf_value.specs.declared.values.CompareOp.TheVariants as op

-- The order of two lists of bytes: the first bytes that differ decide. If one list begins with the whole of the other,
-- the shorter one is less.
abbrev pub order_of : List ℕ → List ℕ → Ordering
order_of [] [] = Equal
order_of [] (y ∷ ys) = Less
order_of (x ∷ xs) [] = Greater
order_of (x ∷ xs) (y ∷ ys) = if nat_lt x y then Less else if x == y then order_of xs ys else Greater

-- what an operator answers if two values stand in this order
abbrev pub answers : CompareOp → Ordering → Bool
answers op.Eq order = is_eq order
answers op.Ne order = not (is_eq order)
answers op.Lt order = is_lt order
answers op.Le order = is_le order
answers op.Gt order = is_gt order
answers op.Ge order = is_ge order

-- whether an operator asks for an order
abbrev pub is_order : CompareOp → Bool
is_order op.Eq = false
is_order op.Ne = false
is_order _ = true

-- The order of two values without parts. Two numbers have one, and a truth value counts as the number 0 or 1. Two bytes
-- values have one, and so have two texts. No other two values have one.
abbrev pub order_of_scalars : Scalar → Scalar → Result Ordering Fault
order_of_scalars (scalar.Text left) (scalar.Text right) = Ok (order_of left right)
order_of_scalars (scalar.Bytes left) (scalar.Bytes right) = Ok (order_of left right)
order_of_scalars left right = do
  m ← number_in left
  n ← number_in right
  Ok (int_cmp m n)
