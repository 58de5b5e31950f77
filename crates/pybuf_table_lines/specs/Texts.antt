-- The text that is written of a table.
use Rattle.std.specs.Prelude.{ℕ, ◌%◌, List, [], ◌∷◌, ◌++◌, length, codes, decimal}
use Rattle.std.specs.Str.{byte}
use Rattle.std.specs.List.{flat_map}
use Rattle.pybuf_value.specs.declared.values.Scalar.{Scalar}
use Rattle.pybuf_value.specs.Spelling.{handle_text, scalar_text, tuple_text}
use Rattle.pybuf_table_lines.specs.Listings.{Listing, listed}

-- the values of a record as a tuple
abbrev pub row_text : List Scalar → List ℕ
row_text row = tuple_text (scalar_text handle_text) row

-- the same as a line, with its line feed
abbrev pub row_line : List Scalar → List ℕ
row_line row = row_text row ++ byte "\n" ∷ []

-- a line for each record that is listed
abbrev pub listing_text : Listing → List ℕ → List ℕ
listing_text l bytes = flat_map row_line (listed l bytes)

-- how many bytes are left over behind the last whole record
abbrev pub left_over : Listing → List ℕ → ℕ
left_over l bytes = length bytes % l.records.format.size

-- the text for bytes that aren't whole records
abbrev pub left_over_text : ℕ → List ℕ
left_over_text n = decimal n ++ codes " bytes left over\n"
