-- The format of one field of a record.
use Rattle.std.specs.Prelude.{ℕ, ◌==◌, ◌||◌, Bool, List, [], ◌∷◌, ◌++◌, if◌then◌else◌}
use Rattle.std.specs.Fmt.{decimal}
use Rattle.std.specs.Str.{byte}
use Rattle.pybuf_struct.specs.declared.table.FormatType.{FormatType}
use Rattle.pybuf_struct.specs.declared.table.FormatType.TheVariants as code
use Rattle.pybuf_struct.specs.Table.{letter}
use Rattle.pybuf_struct.specs.Formats.{Field}

-- whether a byte is the prefix of a format
abbrev pub is_prefix : ℕ → Bool
is_prefix b = b == byte "@" || (b == byte "=" || (b == byte "<" || (b == byte ">" || b == byte "!")))

-- the prefix of a format's text, if it has one
abbrev pub prefix_text : List ℕ → List ℕ
prefix_text [] = []
prefix_text (b ∷ rest) = if is_prefix b then b ∷ [] else []

-- The text of a single field: its letter, after the field's length for `s` and `p`.
abbrev pub code_text : FormatType → ℕ → List ℕ
code_text code.Str n = decimal n ++ letter code.Str ∷ []
code_text code.Pascal n = decimal n ++ letter code.Pascal ∷ []
code_text c n = letter c ∷ []

-- the format of one field, if the format of the records has this text
abbrev pub field_text : List ℕ → Field → List ℕ
field_text text place = prefix_text text ++ code_text place.code place.length
