-- The arguments of an operation's line. Each is a value of one kind, spelled as on other lines, or the number
-- of a view.
use Rattle.std.specs.Prelude.{ℕ, ◌^◌, List, [], ◌∷◌, ℤ, Option, Some, None}
use Rattle.pybuf_value.specs.Choosing.{◌>>=◌}
use Rattle.pybuf_value.specs.declared.values.PySlice.{PySlice}
use Rattle.pybuf_value.specs.declared.values.Scalar.{Scalar}
use Rattle.pybuf_value.specs.declared.values.Scalar.TheVariants as scalar
use Rattle.pybuf_value.specs.declared.values.Value.{Value}
use Rattle.pybuf_value.specs.declared.values.Value.TheVariants as value
use Rattle.pybuf_line.specs.Scalars.{number_below, handle_in}
use Rattle.pybuf_line.specs.Spellings.{value_in}

-- a value without parts that is a whole number, which a truth value isn't
abbrev pub whole_number_of : Scalar → Option ℤ
whole_number_of (scalar.Int n) = Some n
whole_number_of _ = None

-- whole numbers
abbrev pub number_of : Value → Option ℤ
number_of (value.One one) = whole_number_of one
number_of _ = None

-- values without parts, if each is a whole number
abbrev pub each_number : List Scalar → Option (List ℤ)
each_number [] = Some []
each_number (part ∷ more) = do
  n ← whole_number_of part
  ns ← each_number more
  Some (n ∷ ns)

-- lists of whole numbers
abbrev pub numbers_of : Value → Option (List ℤ)
numbers_of (value.List parts) = each_number parts
numbers_of _ = None

-- bytes
abbrev pub bytes_of : Value → Option (List ℕ)
bytes_of (value.One (scalar.Bytes bytes)) = Some bytes
bytes_of _ = None

-- slices, whatever their parts are
abbrev pub slice_of : Value → Option PySlice
slice_of (value.Slice slice) = Some slice
slice_of _ = None

-- the value that a word spells, if it is of this kind
abbrev pub argument_in : {A : Type 0} → (Value → Option A) → List ℕ → Option A
argument_in kind word = do
  v ← value_in handle_in word
  kind v

-- the number of a view: decimal digits of a number below 2^64
abbrev pub view_in : List ℕ → Option ℕ
view_in word = number_below (2 ^ 64) word
