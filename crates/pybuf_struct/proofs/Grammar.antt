-- One byte of a format's text is read after another. What is left to read always decides the same format.
use Rattle.std.proofs.Common.{◌≡◌, ℕ, ◌+◌, ◌-◌, ◌*◌, ◌^◌, ◌<◌, ◌≤◌, true, false, cond, List, [], ◌∷◌, ◌++◌, length, get_or, drop, Option, Some, None, refl, sym, ap, append_assoc, add-one, arith}
use Rattle.std.specs.Prelude.{unwrap_or}
use Rattle.std.specs.Char.{is_ascii_digit}
use Rattle.std.proofs.Math.Seq.{drop-cons}
use Rattle.std.proofs.lemmas.Bool.{le-ltb, lt-ltb}
use Rattle.pybuf_struct.specs.declared.table.Endianness.{Endianness}
use Rattle.pybuf_struct.specs.declared.table.FormatType.{FormatType}
use Rattle.pybuf_value.specs.Choosing.{◌>>=◌}
use Rattle.pybuf_struct.specs.Formats.{CountedCode, Code, Format, layout_from, format_after_prefix, allowed_code, code_at, offset_after}
use Rattle.pybuf_struct.proofs.Extents.{le-span}
use Rattle.pybuf_struct.proofs.Cutting.{with_item}
use Rattle.pybuf_struct.proofs.Reading.{codes_after_count, codes_are_read}

-- the format of the codes so far and of the codes that are left
abbrev pub format_of_rest : Endianness → List Code → ℕ → Option (List CountedCode) → Option Format
format_of_rest o front offset items = items >>= λ rest. layout_from o offset rest >>= λ l. Some (record { order = o; codes = front ++ l.0; size = l.1 })

pub begins : (o : Endianness) (text : List ℕ) → format_of_rest o [] 0 (codes_after_count o text None) ≡ format_after_prefix o text
unfolding format_after_prefix
begins o text = ap (format_of_rest o [] 0) (codes_are_read o text)

pub counted_digit : (o : Endianness) (text : List ℕ) (count : Option ℕ) (i : ℕ) → i < length text → is_ascii_digit (get_or text i 0) ≡ true
    → codes_after_count o (drop i text) count ≡ codes_after_count o (drop (i + 1) text) (Some (unwrap_or count 0 * 10 + (get_or text i 0 - 48)))
unfolding codes_after_count
counted_digit o text count i lt digit = rw (add-one, drop-cons text i 0, digit) refl

pub counted_code : (o : Endianness) (text : List ℕ) (count : Option ℕ) (i : ℕ) (c : FormatType) (n : ℕ) → i < length text → is_ascii_digit (get_or text i 0) ≡ false → allowed_code o (get_or text i 0) ≡ Some c → n ≡ unwrap_or count 1
    → codes_after_count o (drop i text) count ≡ (codes_after_count o (drop (i + 1) text) None >>= with_item (record { repeat = n; code = c }))
unfolding codes_after_count
counted_code o text count i c n lt other e n_is = rw (add-one, drop-cons text i 0, other, e, n_is) refl

pub counted_refused : (o : Endianness) (text : List ℕ) (count : Option ℕ) (i : ℕ) → i < length text → is_ascii_digit (get_or text i 0) ≡ false → allowed_code o (get_or text i 0) ≡ None
    → codes_after_count o (drop i text) count ≡ None
unfolding codes_after_count
counted_refused o text count i lt other e = rw (drop-cons text i 0, other, e) refl

-- if a code fits, the format goes on after it
abbrev with_first : Code → List Code × ℕ → Option (List Code × ℕ)
with_first c l = Some (c ∷ l.0, l.1)

abbrev with_front : Endianness → List Code → List Code × ℕ → Option Format
with_front o front l = Some (record { order = o; codes = front ++ l.0; size = l.1 })

regroup : (o : Endianness) (front : List Code) (c : Code) (rest : Option (List Code × ℕ)) → ((rest >>= with_first c) >>= with_front o front) ≡ (rest >>= with_front o (front ++ c ∷ []))
regroup o front c None = refl
regroup o front c (Some l) = ap (λ (codes : List Code). Some (record { order = o; codes = codes; size = l.1 })) (sym (append_assoc front (c ∷ []) l.0))

pub goes_on : (o : Endianness) (front : List Code) (offset : ℕ) (item : CountedCode) (items : Option (List CountedCode)) → offset_after o offset (code_at o offset item) < 2 ^ 63
    → format_of_rest o front offset (items >>= with_item item) ≡ format_of_rest o (front ++ code_at o offset item ∷ []) (offset_after o offset (code_at o offset item)) items
unfolding layout_from
goes_on o front offset item None lt = refl
goes_on o front offset item (Some others) lt = rw (lt-ltb _ _ lt) (regroup o front (code_at o offset item) (layout_from o (offset_after o offset (code_at o offset item)) others))

-- if a code doesn't fit, there is no format
pub passes : (o : Endianness) (front : List Code) (offset : ℕ) (item : CountedCode) (items : Option (List CountedCode)) → 2 ^ 63 ≤ offset_after o offset (code_at o offset item)
    → format_of_rest o front offset (items >>= with_item item) ≡ None
unfolding layout_from
passes o front offset item None le = refl
passes o front offset item (Some others) le = rw (le-ltb _ _ le) refl

-- if a count passes `isize::MAX`, so does the offset after its code
count_passes : (o : Endianness) (offset : ℕ) (c : FormatType) (n : ℕ) → 2 ^ 63 ≤ n → 2 ^ 63 ≤ offset_after o offset (code_at o offset (record { repeat = n; code = c }))
count_passes o offset c n le = omega (arith, le-span o (code_at o offset (record { repeat = n; code = c })))

abbrev code_then : Endianness → List ℕ → ℕ → FormatType → Option (List CountedCode)
code_then o text n c = codes_after_count o text None >>= with_item (record { repeat = n; code = c })

too_many_at_code : (o : Endianness) (front : List Code) (offset : ℕ) (text : List ℕ) (n : ℕ) → 2 ^ 63 ≤ n → (c : Option FormatType) → format_of_rest o front offset (c >>= code_then o text n) ≡ None
too_many_at_code o front offset text n le None = refl
too_many_at_code o front offset text n le (Some c) = passes o front offset (record { repeat = n; code = c }) (codes_after_count o text None) (count_passes o offset c n le)

pub too_many : (o : Endianness) (front : List Code) (offset : ℕ) (text : List ℕ) (n : ℕ) → 2 ^ 63 ≤ n → format_of_rest o front offset (codes_after_count o text (Some n)) ≡ None
unfolding codes_after_count
too_many o front offset [] n le = refl
too_many o front offset (b ∷ text) n le =
    elim (is_ascii_digit b) as (λ v. format_of_rest o front offset (cond v (codes_after_count o text (Some (n * 10 + (b - 48)))) (allowed_code o b >>= code_then o text n)) ≡ None) [
      | true ↦ too_many o front offset text (n * 10 + (b - 48)) (omega arith)
      | false ↦ too_many_at_code o front offset text n le (allowed_code o b)
    ]
