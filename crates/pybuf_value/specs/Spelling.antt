-- Values as texts, as Python's `repr` writes them.
use Rattle.std.specs.Prelude.{ℕ, Bool, true, false, List, [], ◌∷◌, ◌++◌, codes, decimal}
use Rattle.std.specs.Fmt.{signed_decimal}
use Rattle.std.specs.Str.{byte}
use Rattle.std.specs.List.{flat_map}
use Rattle.pybuf_value.specs.declared.values.Item.{Item}
use Rattle.pybuf_value.specs.declared.values.Item.TheVariants as item
use Rattle.pybuf_value.specs.declared.values.PySlice.{PySlice}
use Rattle.pybuf_value.specs.declared.values.Value.{Value}
use Rattle.pybuf_value.specs.declared.values.Value.TheVariants as value
use Rattle.pybuf_value.specs.declared.values.Scalar.{Scalar}
use Rattle.pybuf_value.specs.declared.values.Scalar.TheVariants as scalar
use Rattle.pybuf_value.specs.Quotes.{quoted_text}

abbrev pub bytes_text : List ℕ → List ℕ
bytes_text bytes = codes "b" ++ quoted_text bytes

abbrev pub truth_text : Bool → List ℕ
truth_text true = codes "True"
truth_text false = codes "False"

-- how a handle is written
abbrev pub handle_text : ℕ → List ℕ
handle_text handle = byte "h" ∷ decimal handle

-- the text of a value without parts, if `name` writes a handle
abbrev pub scalar_text : (ℕ → List ℕ) → Scalar → List ℕ
scalar_text name scalar.None = codes "None"
scalar_text name (scalar.Bool truth) = truth_text truth
scalar_text name (scalar.Int number) = signed_decimal number
scalar_text name (scalar.Text text) = quoted_text text
scalar_text name (scalar.Bytes bytes) = bytes_text bytes
scalar_text name scalar.Ellipsis = codes "Ellipsis"
scalar_text name (scalar.Handle handle) = name handle

-- the text of each part of a tuple or a list after the first, if `text` writes a part
abbrev pub next_part_text : {A : Type 0} → (A → List ℕ) → A → List ℕ
next_part_text text part = codes ", " ++ text part

-- the text of a tuple, if `text` writes a part; a tuple with a single part has a comma after it
abbrev pub tuple_text : {A : Type 0} → (A → List ℕ) → List A → List ℕ
tuple_text text [] = codes "()"
tuple_text text (part ∷ []) = codes "(" ++ text part ++ codes ",)"
tuple_text text (part ∷ next ∷ more) = codes "(" ++ text part ++ flat_map (next_part_text text) (next ∷ more) ++ codes ")"

-- the text of a list, if `text` writes a part
abbrev pub list_text : {A : Type 0} → (A → List ℕ) → List A → List ℕ
list_text text [] = codes "[]"
list_text text (part ∷ more) = codes "[" ++ text part ++ flat_map (next_part_text text) more ++ codes "]"

abbrev pub item_text : (ℕ → List ℕ) → Item → List ℕ
item_text name (item.One part) = scalar_text name part
item_text name (item.Many parts) = tuple_text (scalar_text name) parts

abbrev pub slice_text : PySlice → List ℕ
slice_text s =
    codes "slice(" ++ scalar_text handle_text s.start ++ codes ", " ++ scalar_text handle_text s.stop ++ codes ", " ++ scalar_text handle_text s.step ++ codes ")"

abbrev pub value_text : Value → List ℕ
value_text (value.One part) = scalar_text handle_text part
value_text (value.Slice slice) = slice_text slice
value_text (value.Tuple parts) = tuple_text (scalar_text handle_text) parts
value_text (value.List parts) = list_text (scalar_text handle_text) parts
value_text (value.Slices slices) = tuple_text slice_text slices
