-- How a shape is spelled.
use Rattle.std.specs.Prelude.{◌≡◌, ℕ, ◌<◌, ◌&&◌, Bool, true, ℤ, pos, List, [], ◌∷◌, All, length, nat_le, Option, Some, None, Result, Ok, Err, if◌then◌else◌}
use Rattle.pybuf_value.specs.Choosing.{◌>>=◌}
use Rattle.pybuf_value.specs.Numbers.{number_in}
use Rattle.pybuf_value.specs.declared.faults.Fault.{Fault}
use Rattle.pybuf_value.specs.declared.values.Scalar.{Scalar}
use Rattle.pybuf_value.specs.declared.values.Value.{Value}
use Rattle.pybuf_value.specs.declared.values.Value.TheVariants as value
use Rattle.pybuf_desc.specs.Layouts.{product}
use Rattle.pybuf_line.specs.Scalars.{handle_in}
use Rattle.pybuf_line.specs.Spellings.{value_in}

-- what each entry of a list gives, if every entry gives something
abbrev pub each_gives : {A B : Type 0} → (A → Option B) → List A → Option (List B)
each_gives given [] = Some []
each_gives given (one ∷ more) = do
  first ← given one
  rest ← each_gives given more
  Some (first ∷ rest)

-- the most items that a shape may have
abbrev pub most_items : ℕ
most_items = 1_048_576

abbrev pub counted : Result ℤ Fault → Option ℕ
counted (Ok (pos n)) = if nat_le 1 n && nat_le n most_items then Some n else None
counted _ = None

-- The number of entries of a dimension. It is a number from 1 on, and a truth value counts as a number. It may
-- not be greater than the most items that a shape may have.
abbrev pub entry_in : Scalar → Option ℕ
entry_in part = counted (number_in part)

-- whether a shape has from one to 64 dimensions, and at most as many items as it may
abbrev pub is_shape : List ℕ → Bool
is_shape shape = nat_le 1 (length shape) && (nat_le (length shape) 64 && nat_le (product shape) most_items)

abbrev pub if_shape : List ℕ → Option (List ℕ)
if_shape shape = if is_shape shape then Some shape else None

-- the shape that a list of numbers is, if it is one
abbrev pub shape_of_value : Value → Option (List ℕ)
shape_of_value (value.List parts) = do
  entries ← each_gives entry_in parts
  if_shape entries
shape_of_value _ = None

-- The shape that a word spells: a list of one to 64 numbers from 1 on, with a product of at most 1,048,576.
abbrev pub shape_in : List ℕ → Option (List ℕ)
shape_in word = do
  v ← value_in handle_in word
  shape_of_value v

-- what holds of every shape
pub record IsShape (shape : List ℕ) : Type 0 where
  pub entries : All (λ n. 0 < n) shape
  pub small : is_shape shape ≡ true
