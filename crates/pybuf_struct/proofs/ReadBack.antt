-- Codes and counts that are written are read as the same codes and counts.
use Rattle.std.proofs.Common.{◌≡◌, inl, inr, ℕ, zero, suc, ◌^◌, ◌<◌, ◌≤◌, false, List, [], ◌∷◌, ◌++◌, length, map, replicate, Option, Some, refl, ap, ◌∙◌, arith, tests, decimal}
use Rattle.std.specs.Prelude.{IsTrue, ok_or}
use Rattle.std.specs.Char.{is_ascii_digit, digit_value}
use Rattle.std.specs.Str.Parse.{AllDigits, digits_value}
use Rattle.std.proofs.lemmas.Bool.{lt-ltb}
use Rattle.std.proofs.lemmas.Fmt.{decimal_is_IsNumeral}
use Rattle.std.proofs.lemmas.Str.Parse.{digit_from_value}
use Rattle.std.proofs.lemmas.List.{length-append}
use Rattle.pybuf_value.specs.declared.faults.Fault.TheVariants as fault
use Rattle.pybuf_value.specs.Choosing.{◌>>=◌}
use Rattle.pybuf_struct.specs.declared.table.Endianness.{Endianness}
use Rattle.pybuf_struct.specs.declared.table.Endianness.TheVariants as order
use Rattle.pybuf_struct.specs.declared.table.FormatType.{FormatType}
use Rattle.pybuf_struct.specs.declared.table.FormatType.TheVariants as code
use Rattle.pybuf_struct.specs.Table.{letter, code_of, is_allowed}
use Rattle.pybuf_struct.specs.Formats.{CountedCode, Code, Format, prefix_of, count_of, allowed_code, codes_in, layout_from, format_after_prefix, code_at, offset_after}
use Rattle.pybuf_struct.specs.FormatTexts.{WrittenCode, IsPrefixOf, IsTextOfCount, AreWritten, text_of_codes, items_of_codes, item_of_code, end_after}
use Rattle.pybuf_struct.specs.Laws.{FormatsReadBack}
use Rattle.pybuf_struct.proofs.Extents.{le-span}
use Rattle.pybuf_struct.proofs.Cutting.{with_item, codes-cut, codes-none}

-- ---- letters

code_of-letter : (c : FormatType) → code_of (letter c) ≡ Some c
code_of-letter code.Pad = refl
code_of-letter _ = refl

allowed-letter : (o : Endianness) (c : FormatType) → IsTrue (is_allowed o c) → allowed_code o (letter c) ≡ Some c
allowed-letter o c h = rw (code_of-letter c, h) refl

other-letter : (c : FormatType) → is_ascii_digit (letter c) ≡ false
other-letter code.Pad = refl
other-letter _ = refl

-- ---- counts

zeros-digits : (zeros : ℕ) (digits : List ℕ) → AllDigits 10 digits → AllDigits 10 (replicate zeros 48 ++ digits)
zeros-digits zero digits are = are
zeros-digits (suc zeros) digits are = (omega arith, zeros-digits zeros digits are)

zeros-value : (zeros : ℕ) (digits : List ℕ) → digits_value 10 (replicate zeros 48 ++ digits) ≡ digits_value 10 digits
zeros-value zero digits = refl
zeros-value (suc zeros) digits = zeros-value zeros digits

count-some : (digits : List ℕ) → 0 < length digits → count_of digits ≡ digits_value 10 digits
count-some [] some = absurd (omega arith)
count-some (d ∷ digits) some = refl

count_is : (n : ℕ) (text : List ℕ) → n < 2 ^ 64 → IsTextOfCount n text → AllDigits 10 text × (count_of text ≡ n)
count_is n text small (inl none) = rw (none.0, none.1) (tt, refl)
count_is n text small (inr digits) =
    let d = decimal_is_IsNumeral n small in
    let some : 0 < length (replicate digits.0 48 ++ decimal n) = omega (arith, length-append (replicate digits.0 48) (decimal n), d.0.0) in
    rw digits.1 (zeros-digits digits.0 (decimal n) d.0.1, count-some (replicate digits.0 48 ++ decimal n) some ∙ zeros-value digits.0 (decimal n) ∙ d.1)

-- ---- codes

le-end : (o : Endianness) (offset : ℕ) (items : List CountedCode) → offset ≤ end_after o offset items
le-end o offset [] = omega arith
le-end o offset (item ∷ items) = omega (arith, le-end o (offset_after o offset (code_at o offset item)) items)

le-repeat : (o : Endianness) (offset : ℕ) (item : CountedCode) (items : List CountedCode) → item.repeat ≤ end_after o offset (item ∷ items)
le-repeat o offset item items = omega (arith, le-end o (offset_after o offset (code_at o offset item)) items, le-span o (code_at o offset item))

codes_again : (o : Endianness) (offset : ℕ) (ws : List WrittenCode) → AreWritten o ws → end_after o offset (items_of_codes ws) < 2 ^ 63 → codes_in o (text_of_codes ws) ≡ Some (items_of_codes ws)
codes_again o offset [] are fits = codes-none o
codes_again o offset (w ∷ ws) are fits =
    let count = count_is w.item.repeat w.count_text (omega (arith, le-repeat o offset w.item (items_of_codes ws))) are.0.0 in
    let rest = codes_again o (offset_after o offset (code_at o offset w.item)) ws are.1 fits in
    codes-cut o w.count_text (letter w.item.code) (text_of_codes ws) count.0 (other-letter w.item.code)
    ∙ ap (λ (c : Option FormatType). c >>= λ d. codes_in o (text_of_codes ws) >>= with_item (record { repeat = count_of w.count_text; code = d })) (allowed-letter o w.item.code are.0.1)
    ∙ ap (λ (others : Option (List CountedCode)). others >>= with_item (record { repeat = count_of w.count_text; code = w.item.code })) rest
    ∙ ap (λ (n : ℕ). Some (record { repeat = n; code = w.item.code } ∷ items_of_codes ws)) count.1

-- ---- the layout

abbrev codes_at : Endianness → ℕ → List CountedCode → List Code
codes_at o offset [] = []
codes_at o offset (item ∷ items) = code_at o offset item ∷ codes_at o (offset_after o offset (code_at o offset item)) items

items-codes_at : (o : Endianness) (offset : ℕ) (items : List CountedCode) → map item_of_code (codes_at o offset items) ≡ items
items-codes_at o offset [] = refl
items-codes_at o offset (item ∷ items) = ap (λ (others : List CountedCode). item ∷ others) (items-codes_at o (offset_after o offset (code_at o offset item)) items)

layout_again : (o : Endianness) (offset : ℕ) (items : List CountedCode) → end_after o offset items < 2 ^ 63 → layout_from o offset items ≡ Some (codes_at o offset items, end_after o offset items)
unfolding layout_from
layout_again o offset [] fits = refl
layout_again o offset (item ∷ items) fits =
    let next = offset_after o offset (code_at o offset item) in
    let here : next < 2 ^ 63 = omega (arith, le-end o next items) in
    rw (lt-ltb _ _ here, layout_again o next items fits) refl

-- ---- the prefix

digit_first : (d : ℕ) (rest : List ℕ) → digit_value d < 10 → prefix_of (d ∷ rest) ≡ (order.Native, d ∷ rest)
digit_first d rest h = let r = digit_from_value d h in grind (arith, tests, r)

letter_first : (c : FormatType) (rest : List ℕ) → prefix_of (letter c ∷ rest) ≡ (order.Native, letter c ∷ rest)
letter_first code.Pad rest = refl
letter_first _ rest = refl

code_first : (digits : List ℕ) (c : FormatType) (rest : List ℕ) → AllDigits 10 digits → prefix_of (digits ++ letter c ∷ rest) ≡ (order.Native, digits ++ letter c ∷ rest)
code_first [] c rest are = letter_first c rest
code_first (d ∷ digits) c rest are = digit_first d (digits ++ letter c ∷ rest) are.0

no_prefix : (o : Endianness) (offset : ℕ) (ws : List WrittenCode) → AreWritten o ws → end_after o offset (items_of_codes ws) < 2 ^ 63 → prefix_of (text_of_codes ws) ≡ (order.Native, text_of_codes ws)
no_prefix o offset [] are fits = refl
no_prefix o offset (w ∷ ws) are fits =
    code_first w.count_text w.item.code (text_of_codes ws) (count_is w.item.repeat w.count_text (omega (arith, le-repeat o offset w.item (items_of_codes ws))) are.0.0).0

prefix_again : (o : Endianness) (prefix : List ℕ) (ws : List WrittenCode) → IsPrefixOf o prefix → AreWritten o ws → end_after o 0 (items_of_codes ws) < 2 ^ 63 → prefix_of (prefix ++ text_of_codes ws) ≡ (o, text_of_codes ws)
prefix_again order.Native prefix ws (inl is) are fits = rw is (no_prefix order.Native 0 ws are fits)
prefix_again order.Native prefix ws (inr is) are fits = rw is refl
prefix_again order.Host prefix ws is are fits = rw is refl
prefix_again order.Little prefix ws is are fits = rw is refl
prefix_again order.Big prefix ws (inl is) are fits = rw is refl
prefix_again order.Big prefix ws (inr is) are fits = rw is refl

-- ---- all of it

format_again : (o : Endianness) (ws : List WrittenCode) → AreWritten o ws → end_after o 0 (items_of_codes ws) < 2 ^ 63
    → format_after_prefix o (text_of_codes ws) ≡ Some (record { order = o; codes = codes_at o 0 (items_of_codes ws); size = end_after o 0 (items_of_codes ws) })
unfolding format_after_prefix
format_again o ws are fits = rw (codes_again o 0 ws are fits, layout_again o 0 (items_of_codes ws) fits) refl

pub formats_again : FormatsReadBack
formats_again o prefix ws is are fits = (
  record { order = o; codes = codes_at o 0 (items_of_codes ws); size = end_after o 0 (items_of_codes ws) },
  ap (λ (p : Endianness × List ℕ). ok_or (format_after_prefix p.0 p.1) fault.Struct) (prefix_again o prefix ws is are fits) ∙ ap (λ (f : Option Format). ok_or f fault.Struct) (format_again o ws are fits),
  refl,
  items-codes_at o 0 (items_of_codes ws),
)
