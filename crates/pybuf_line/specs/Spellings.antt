-- How values are read from a line and written to one, by the way in which a handle is read or written.
use Rattle.std.specs.Prelude.{ℕ, List, [], ◌∷◌, ◌++◌, map, Option, Some, None}
use Rattle.std.specs.List.{join_with_byte}
use Rattle.std.specs.Str.{byte}
use Rattle.pybuf_value.specs.Choosing.{◌>>=◌, ◌or_else◌}
use Rattle.pybuf_value.specs.declared.values.Scalar.{Scalar}
use Rattle.pybuf_value.specs.declared.values.PySlice.{PySlice}
use Rattle.pybuf_value.specs.declared.values.Value.{Value}
use Rattle.pybuf_value.specs.declared.values.Value.TheVariants as value
use Rattle.pybuf_line.specs.Parts.{parts_at, parts_outside_quotes, each}
use Rattle.pybuf_line.specs.Scalars.{enclosed_text, plain_in, scalar_in, written_scalar}

abbrev pub slice_of : (List ℕ → Option ℕ) → List (List ℕ) → Option PySlice
slice_of name_in (start ∷ stop ∷ step ∷ []) = do
  a ← plain_in name_in start
  o ← plain_in name_in stop
  e ← plain_in name_in step
  Some (record { start = a; stop = o; step = e })
slice_of name_in _ = None

-- three scalars other than text, joined by `:`
abbrev pub slice_in : (List ℕ → Option ℕ) → List ℕ → Option PySlice
slice_in name_in text = slice_of name_in (parts_at (byte ":") text)

-- Scalars that are joined by `,`. There may be none.
abbrev pub scalars_in : (List ℕ → Option ℕ) → List ℕ → Option (List Scalar)
scalars_in name_in [] = Some []
scalars_in name_in (first ∷ rest) = each (scalar_in name_in) (parts_outside_quotes (first ∷ rest))

-- one or more slices joined by `,`
abbrev pub slices_in : (List ℕ → Option ℕ) → List ℕ → Option (List PySlice)
slices_in name_in text = each (slice_in name_in) (parts_outside_quotes text)

abbrev pub one_in : (List ℕ → Option ℕ) → List ℕ → Option Value
one_in name_in text = do
  one ← scalar_in name_in text
  Some (value.One one)

abbrev pub slice_value_in : (List ℕ → Option ℕ) → List ℕ → Option Value
slice_value_in name_in text = do
  slice ← slice_in name_in text
  Some (value.Slice slice)

-- `(..)` with scalars
abbrev pub tuple_in : (List ℕ → Option ℕ) → List ℕ → Option Value
tuple_in name_in text = do
  inner ← enclosed_text (byte "(") (byte ")") text
  parts ← scalars_in name_in inner
  Some (value.Tuple parts)

-- `[..]` with scalars
abbrev pub list_in : (List ℕ → Option ℕ) → List ℕ → Option Value
list_in name_in text = do
  inner ← enclosed_text (byte "[") (byte "]") text
  parts ← scalars_in name_in inner
  Some (value.List parts)

-- `(..)` with slices
abbrev pub tuple_of_slices_in : (List ℕ → Option ℕ) → List ℕ → Option Value
tuple_of_slices_in name_in text = do
  inner ← enclosed_text (byte "(") (byte ")") text
  parts ← slices_in name_in inner
  Some (value.Slices parts)

-- the one value that a word of a line spells, or none
unfoldable pub value_in : (List ℕ → Option ℕ) → List ℕ → Option Value
value_in name_in text = one_in name_in text or_else slice_value_in name_in text or_else tuple_in name_in text or_else list_in name_in text or_else tuple_of_slices_in name_in text

-- how a slice is written
abbrev pub written_slice : (ℕ → List ℕ) → PySlice → List ℕ
written_slice name slice = join_with_byte (byte ":") (written_scalar name slice.start ∷ written_scalar name slice.stop ∷ written_scalar name slice.step ∷ [])

-- how parts are written, by how one part is
abbrev pub written_parts : {A : Type 0} → (A → List ℕ) → List A → List ℕ
written_parts text parts = join_with_byte (byte ",") (map text parts)

-- how a value is written
abbrev pub written_value : (ℕ → List ℕ) → Value → List ℕ
written_value name (value.One one) = written_scalar name one
written_value name (value.Slice slice) = written_slice name slice
written_value name (value.Tuple parts) = byte "(" ∷ written_parts (written_scalar name) parts ++ byte ")" ∷ []
written_value name (value.List parts) = byte "[" ∷ written_parts (written_scalar name) parts ++ byte "]" ∷ []
written_value name (value.Slices slices) = byte "(" ∷ written_parts (written_slice name) slices ++ byte ")" ∷ []
