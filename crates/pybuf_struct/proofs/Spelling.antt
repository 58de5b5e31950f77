-- A text is read up to an index, and each further byte changes what was read.
use Rattle.std.proofs.Common.{◌≡◌, ℕ, ◌+◌, ◌-◌, ◌*◌, ◌^◌, ◌<◌, ◌≤◌, true, false, List, [], ◌∷◌, ◌++◌, length, get_or, drop, Option, Some, None, refl, sym, ap, ◌∙◌, arith}
use Rattle.std.specs.Prelude.{unwrap_or, is_some, if◌then◌else◌}
use Rattle.std.specs.Char.{is_ascii_digit}
use Rattle.std.proofs.lemmas.List.{append-nil, drop_all}
use Rattle.pybuf_struct.specs.declared.table.Endianness.{Endianness}
use Rattle.pybuf_struct.specs.declared.table.FormatType.{FormatType}
use Rattle.pybuf_struct.specs.Formats.{CountedCode, Code, layout_from, format_after_prefix, extent, fields_from, field_count, allowed_code, code_at, offset_after}
use Rattle.pybuf_struct.proofs.Extents.{extent_push, length-fields_push, field_count-le-span, field_count-le-span_one}
use Rattle.pybuf_struct.proofs.Reading.{codes_after_count}
use Rattle.pybuf_struct.proofs.Grammar.{format_of_rest, begins, counted_digit, counted_code, counted_refused, goes_on, passes, too_many}

pub record Spells (o : Endianness) (text : List ℕ) (codes : List Code) (offset arg_count : ℕ) (count : Option ℕ) (i : ℕ) : Type 0 where
  pub same : format_of_rest o codes offset (codes_after_count o (drop i text) count) ≡ format_after_prefix o text
  pub filled : extent o codes ≡ offset
  pub bound : offset < 2 ^ 63
  pub counted_fields : arg_count ≡ length (fields_from o 0 codes)
  -- each field but an empty one takes a byte of the offset, and an empty one two bytes of the text
  pub few : 2 * arg_count + (if is_some count then 1 else 0) ≤ 2 * offset + i

pub spells_nothing : (o : Endianness) (text : List ℕ) → Spells o text [] 0 0 None 0
spells_nothing o text = record { same = begins o text; filled = refl; bound = omega arith; counted_fields = refl; few = omega arith }

pub spells_digit : (o : Endianness) (text : List ℕ) (codes : List Code) (offset arg_count : ℕ) (count : Option ℕ) (i n : ℕ) → Spells o text codes offset arg_count count i
    → i < length text → is_ascii_digit (get_or text i 0) ≡ true → n ≡ unwrap_or count 0 * 10 + (get_or text i 0 - 48) → Spells o text codes offset arg_count (Some n) (i + 1)
spells_digit o text codes offset arg_count count i n s lt digit e =
    record { same = ap (format_of_rest o codes offset) (ap (λ (m : ℕ). codes_after_count o (drop (i + 1) text) (Some m)) e ∙ sym (counted_digit o text count i lt digit)) ∙ s.same; filled = s.filled; bound = s.bound; counted_fields = s.counted_fields; few = omega (arith, s.few) }

few_more : (o : Endianness) (c : Code) (offset arg_count : ℕ) (count : Option ℕ) (i : ℕ) → 2 * arg_count + (if is_some count then 1 else 0) ≤ 2 * offset + i → c.repeat ≡ unwrap_or count 1
    → 2 * (arg_count + field_count c) + 0 ≤ 2 * offset_after o offset c + (i + 1)
few_more o c offset arg_count None i few e = omega (arith, field_count-le-span_one o c e)
few_more o c offset arg_count (Some n) i few e = omega (arith, field_count-le-span o c)

pub spells_code : (o : Endianness) (text : List ℕ) (codes : List Code) (offset arg_count : ℕ) (count : Option ℕ) (i : ℕ) (c : FormatType) (n : ℕ) (made : Code) (end more : ℕ) → Spells o text codes offset arg_count count i
    → i < length text → is_ascii_digit (get_or text i 0) ≡ false → allowed_code o (get_or text i 0) ≡ Some c → n ≡ unwrap_or count 1
    → made ≡ code_at o offset (record { repeat = n; code = c }) → end ≡ offset_after o offset (code_at o offset (record { repeat = n; code = c })) → end < 2 ^ 63 → more ≡ arg_count + field_count made
    → Spells o text (codes ++ made ∷ []) end more None (i + 1)
spells_code o text codes offset arg_count count i c n made end more s lt other allowed n_is made_is end_is fits more_is =
    let item : CountedCode = record { repeat = n; code = c } in
    let after : end ≡ offset_after o offset made = end_is ∙ ap (offset_after o offset) (sym made_is) in
    let step : format_of_rest o codes offset (codes_after_count o (drop i text) count) ≡ format_of_rest o (codes ++ code_at o offset item ∷ []) (offset_after o offset (code_at o offset item)) (codes_after_count o (drop (i + 1) text) None)
    = ap (format_of_rest o codes offset) (counted_code o text count i c n lt other allowed n_is) ∙ goes_on o codes offset item (codes_after_count o (drop (i + 1) text) None) (omega (arith, end_is)) in
    record {
      same = rw (made_is, end_is) (sym step ∙ s.same);
      filled = omega (arith, extent_push o codes made, s.filled, after);
      bound = fits;
      counted_fields = omega (arith, length-fields_push o 0 codes made, s.counted_fields, more_is);
      few = rw (more_is, after) (few_more o made offset arg_count count i s.few (ap (λ (d : Code). d.repeat) made_is ∙ n_is));
    }

pub no_count : (o : Endianness) (text : List ℕ) (codes : List Code) (offset arg_count : ℕ) (count : Option ℕ) (i : ℕ) → Spells o text codes offset arg_count count i
    → i < length text → is_ascii_digit (get_or text i 0) ≡ true → 2 ^ 63 ≤ unwrap_or count 0 * 10 + (get_or text i 0 - 48) → format_after_prefix o text ≡ None
no_count o text codes offset arg_count count i s lt digit past =
    sym s.same ∙ ap (format_of_rest o codes offset) (counted_digit o text count i lt digit) ∙ too_many o codes offset (drop (i + 1) text) _ past

pub no_code : (o : Endianness) (text : List ℕ) (codes : List Code) (offset arg_count : ℕ) (count : Option ℕ) (i : ℕ) → Spells o text codes offset arg_count count i
    → i < length text → is_ascii_digit (get_or text i 0) ≡ false → allowed_code o (get_or text i 0) ≡ None → format_after_prefix o text ≡ None
no_code o text codes offset arg_count count i s lt other refused =
    sym s.same ∙ ap (format_of_rest o codes offset) (counted_refused o text count i lt other refused)

pub no_room : (o : Endianness) (text : List ℕ) (codes : List Code) (offset arg_count : ℕ) (count : Option ℕ) (i : ℕ) (c : FormatType) (n : ℕ) → Spells o text codes offset arg_count count i
    → i < length text → is_ascii_digit (get_or text i 0) ≡ false → allowed_code o (get_or text i 0) ≡ Some c → n ≡ unwrap_or count 1
    → 2 ^ 63 ≤ offset_after o offset (code_at o offset (record { repeat = n; code = c })) → format_after_prefix o text ≡ None
no_room o text codes offset arg_count count i c n s lt other allowed n_is past =
    sym s.same ∙ ap (format_of_rest o codes offset) (counted_code o text count i c n lt other allowed n_is) ∙ passes o codes offset _ (codes_after_count o (drop (i + 1) text) None) past

pub no_end : (o : Endianness) (text : List ℕ) (codes : List Code) (offset arg_count : ℕ) (count : Option ℕ) (i : ℕ) → Spells o text codes offset arg_count count i
    → length text ≤ i → is_some count ≡ true → format_after_prefix o text ≡ None
unfolding codes_after_count
no_end o text codes offset arg_count None i s le counts = absurd cc
no_end o text codes offset arg_count (Some n) i s le counts = sym s.same ∙ ap (λ (rest : List ℕ). format_of_rest o codes offset (codes_after_count o rest (Some n))) (drop_all i text le)

pub spells_all : (o : Endianness) (text : List ℕ) (codes : List Code) (offset arg_count : ℕ) (count : Option ℕ) (i : ℕ) → Spells o text codes offset arg_count count i
    → length text ≤ i → is_some count ≡ false → format_after_prefix o text ≡ Some (record { order = o; codes = codes; size = offset })
unfolding codes_after_count layout_from
spells_all o text codes offset arg_count None i s le counts = sym s.same ∙ ap (λ (rest : List ℕ). format_of_rest o codes offset (codes_after_count o rest None)) (drop_all i text le) ∙ ap (λ (front : List Code). Some (record { order = o; codes = front; size = offset })) (append-nil codes)
spells_all o text codes offset arg_count (Some n) i s le counts = absurd cc
