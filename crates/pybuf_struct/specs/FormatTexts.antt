-- How formats are written.
use Rattle.std.specs.Prelude.{IsTrue, ℕ, ◌≡◌, ◌⊎◌, List, [], ◌∷◌, ◌++◌, map, replicate, codes}
use Rattle.std.specs.Fmt.{decimal}
use Rattle.std.specs.Str.{byte}
use Rattle.std.specs.List.{AllByRecursion}
use Rattle.pybuf_struct.specs.declared.table.Endianness.{Endianness}
use Rattle.pybuf_struct.specs.declared.table.Endianness.TheVariants as order
use Rattle.pybuf_struct.specs.Table.{letter, is_allowed}
use Rattle.pybuf_struct.specs.Formats.{CountedCode, Code, code_at, offset_after}

-- the texts of a prefix: no text means the same as `@`, and `!` means the same as `>`
abbrev pub IsPrefixOf : Endianness → List ℕ → Type 0
IsPrefixOf order.Native text = (text ≡ []) ⊎ (text ≡ codes "@")
IsPrefixOf order.Host text = text ≡ codes "="
IsPrefixOf order.Little text = text ≡ codes "<"
IsPrefixOf order.Big text = (text ≡ codes ">") ⊎ (text ≡ codes "!")

-- the texts of a count: its decimal digits, behind any number of zeros; no text stands for 1
abbrev pub IsTextOfCount : ℕ → List ℕ → Type 0
IsTextOfCount n text = ((text ≡ []) × (n ≡ 1)) ⊎ ((zeros : ℕ) × (text ≡ replicate zeros (byte "0") ++ decimal n))

-- a code with its count, and the text of the count
pub record WrittenCode : Type 0 where
  pub count_text : List ℕ
  pub item : CountedCode

-- the text of codes, each after the text of its count
abbrev pub text_of_codes : List WrittenCode → List ℕ
text_of_codes [] = []
text_of_codes (w ∷ ws) = w.count_text ++ letter w.item.code ∷ text_of_codes ws

-- formats of this prefix have these codes, and each code stands after a text of its count
abbrev pub AreWritten : Endianness → List WrittenCode → Type 0
AreWritten o ws = AllByRecursion (λ w. IsTextOfCount w.item.repeat w.count_text × IsTrue (is_allowed o w.item.code)) ws

abbrev pub items_of_codes : List WrittenCode → List CountedCode
items_of_codes ws = map (λ w. w.item) ws

-- a code of a format, without its padding
abbrev pub item_of_code : Code → CountedCode
item_of_code c = record { repeat = c.repeat; code = c.code }

-- the offset at which codes end that follow one another from an offset on, each after its padding
abbrev pub end_after : Endianness → ℕ → List CountedCode → ℕ
end_after o offset [] = offset
end_after o offset (item ∷ items) = end_after o (offset_after o offset (code_at o offset item)) items
