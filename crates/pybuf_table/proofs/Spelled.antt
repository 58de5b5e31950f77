-- The format of one field is a format of its length.
use Rattle.std.proofs.Common.{◌≡◌, ℕ, zero, suc, ◌+◌, ◌-◌, ◌^◌, ◌<◌, Bool, true, false, cond, eqb, List, [], ◌∷◌, ◌++◌, length, Option, Some, None, Ok, IsTrue, refl, sym, ap, ◌∙◌, subst, inl, inr, arith}
use Rattle.std.specs.Prelude.{slice_get, codes, ◌||◌}
use Rattle.std.specs.List.{AllByRecursion}
use Rattle.std.specs.Fmt.{decimal}
use Rattle.std.proofs.lemmas.Bool.{cases_lt, eqb-true}
use Rattle.std.proofs.Math.Nat.{zero-mod}
use Rattle.pybuf_struct.specs.Facts.{some, ok_or_some, read_allowed, codes_allowed, laid_again}
use Rattle.pybuf_value.specs.Choosing.{◌>>=◌}
use Rattle.pybuf_struct.specs.declared.table.Endianness.{Endianness}
use Rattle.pybuf_struct.specs.declared.table.Endianness.TheVariants as order
use Rattle.pybuf_struct.specs.declared.table.FormatType.{FormatType}
use Rattle.pybuf_struct.specs.declared.table.FormatType.TheVariants as code
use Rattle.pybuf_struct.specs.Table.{is_allowed, size_of, alignment_of}
use Rattle.pybuf_struct.specs.Formats.{CountedCode, Code, Format, Field, codes_in, layout_from, format_after_prefix, format_of, prefix_of, padding, code_at, offset_after, fields_in_row, fields_of_code, fields_from, fields, field_count}
use Rattle.pybuf_struct.specs.FormatTexts.{WrittenCode, IsPrefixOf, IsTextOfCount, text_of_codes, items_of_codes, end_after}
use Rattle.pybuf_struct.specs.Laws.{FormatsReadBack}
use Rattle.pybuf_struct.specs.Values.{is_length}
use Rattle.pybuf_table.specs.FieldTexts.{prefix_text, code_text, field_text}
use Rattle.pybuf_table.proofs.FieldLemmas.{field_here, field_later}

-- ---- the parts of a format that a text spells

pub record IsLaid (o : Endianness) (text : List ℕ) (f : Format) : Type 0 where
  pub items : List CountedCode
  pub read : codes_in o text ≡ Some items
  pub order : f.order ≡ o
  pub laid : layout_from o 0 items ≡ Some (f.codes, f.size)

abbrev format_with : Endianness → List Code × ℕ → Format
format_with o l = record { order = o; codes = l.0; size = l.1 }

laid_by : (o : Endianness) (text : List ℕ) (items : List CountedCode) (layout : Option (List Code × ℕ)) (f : Format) → codes_in o text ≡ Some items → layout_from o 0 items ≡ layout → (layout >>= λ l. Some (format_with o l)) ≡ some f → IsLaid o text f
laid_by o text items None f read laid is = absurd cc
laid_by o text items (Some l) f read laid is =
    let same : format_with o l ≡ f = cc in
    subst (IsLaid o text) same (record { items = items; read = read; order = refl; laid = laid })

laid_items : (o : Endianness) (text : List ℕ) (items : Option (List CountedCode)) (f : Format) → codes_in o text ≡ items → (items >>= λ all. layout_from o 0 all >>= λ l. Some (format_with o l)) ≡ some f → IsLaid o text f
laid_items o text None f read is = absurd cc
laid_items o text (Some items) f read is = laid_by o text items (layout_from o 0 items) f read refl is

laid_after : (o : Endianness) (text : List ℕ) (f : Format) → format_after_prefix o text ≡ some f → IsLaid o text f
unfolding format_after_prefix
laid_after o text f is = laid_items o text (codes_in o text) f refl is

pub laid_of : (text : List ℕ) (f : Format) → format_of text ≡ Ok f → IsLaid (prefix_of text).0 (prefix_of text).1 f
laid_of text f is = laid_after (prefix_of text).0 (prefix_of text).1 f (ok_or_some (format_after_prefix (prefix_of text).0 (prefix_of text).1) f is)

-- ---- each code of a format is one that formats of its prefix have

abbrev pub CodesAllowed : Endianness → List Code → Type 0
CodesAllowed o codes = AllByRecursion (λ c. is_allowed o c.code ≡ true) codes

-- a field of a code has it
in_row : (c : FormatType) (size offset count k : ℕ) (place : Field) → slice_get (fields_in_row c size offset count) k ≡ Some place → place.code ≡ c
in_row c size offset zero k place is = absurd cc
in_row c size offset (suc count) zero place is = let same : record { code = c; offset = offset; length = size } ≡ place = cc in ap (λ (f : Field). f.code) (sym same)
in_row c size offset (suc count) (suc k) place is = in_row c size (offset + size) count k place is

of_one : (c : FormatType) (offset count k : ℕ) (place : Field) → slice_get (record { code = c; offset = offset; length = count } ∷ []) k ≡ Some place → place.code ≡ c
of_one c offset count zero place is = let same : record { code = c; offset = offset; length = count } ≡ place = cc in ap (λ (f : Field). f.code) (sym same)
of_one c offset count (suc k) place is = absurd cc

of_code : (c : FormatType) (size offset count k : ℕ) (place : Field) → slice_get (fields_of_code c size offset count) k ≡ Some place → place.code ≡ c
of_code code.Pad size offset count k place is = absurd cc
of_code code.Str size offset count k place is = of_one code.Str offset count k place is
of_code code.Pascal size offset count k place is = of_one code.Pascal offset count k place is
of_code code.SByte size offset count k place is = in_row code.SByte size offset count k place is
of_code code.UByte size offset count k place is = in_row code.UByte size offset count k place is
of_code code.Char size offset count k place is = in_row code.Char size offset count k place is
of_code code.Bool size offset count k place is = in_row code.Bool size offset count k place is
of_code code.Short size offset count k place is = in_row code.Short size offset count k place is
of_code code.UShort size offset count k place is = in_row code.UShort size offset count k place is
of_code code.Int size offset count k place is = in_row code.Int size offset count k place is
of_code code.UInt size offset count k place is = in_row code.UInt size offset count k place is
of_code code.Long size offset count k place is = in_row code.Long size offset count k place is
of_code code.ULong size offset count k place is = in_row code.ULong size offset count k place is
of_code code.LongLong size offset count k place is = in_row code.LongLong size offset count k place is
of_code code.ULongLong size offset count k place is = in_row code.ULongLong size offset count k place is
of_code code.SSizeT size offset count k place is = in_row code.SSizeT size offset count k place is
of_code code.SizeT size offset count k place is = in_row code.SizeT size offset count k place is
of_code code.WideChar size offset count k place is = in_row code.WideChar size offset count k place is

field_allowed : (o : Endianness) (at : ℕ) (codes : List Code) (k : ℕ) (place : Field) → CodesAllowed o codes → slice_get (fields_from o at codes) k ≡ Some place → is_allowed o place.code ≡ true
field_allowed o at [] k place are is = absurd cc
field_allowed o at (c ∷ codes) k place are is =
    elim (cases_lt k (field_count c)) [
      | inl less ↦ rw (of_code c.code (size_of o c.code) (at + c.pre_padding) c.repeat k place (sym (field_here o at c codes k less) ∙ is)) are.0
      | inr more ↦ field_allowed o (offset_after o at c) codes (k - field_count c) place are.1 (sym (field_later o at c codes k more) ∙ is)
    ]

pub spelled_allowed : (text : List ℕ) (f : Format) (k : ℕ) (place : Field) → format_of text ≡ Ok f → slice_get (fields f) k ≡ Some place → (f.order ≡ (prefix_of text).0) × (is_allowed f.order place.code ≡ true)
spelled_allowed text f k place is there =
    let laid = laid_of text f is in
    let o = (prefix_of text).0 in
    let codes = codes_allowed o 0 laid.items (f.codes, f.size) (read_allowed o (prefix_of text).1 laid.items laid.read) laid.laid in
    let there' : slice_get (fields_from o 0 f.codes) k ≡ Some place = rw laid.order at there in
    (laid.order, rw laid.order (field_allowed o 0 f.codes k place codes there'))

-- ---- one field, as it is written

abbrev pub written : FormatType → ℕ → WrittenCode
written code.Str n = record { count_text = decimal n; item = record { repeat = n; code = code.Str } }
written code.Pascal n = record { count_text = decimal n; item = record { repeat = n; code = code.Pascal } }
written c n = record { count_text = []; item = record { repeat = 1; code = c } }

written_text : (c : FormatType) (n : ℕ) → code_text c n ≡ text_of_codes (written c n ∷ [])
written_text code.Str n = refl
written_text code.Pascal n = refl
written_text _ n = refl

written_code : (c : FormatType) (n : ℕ) → (written c n).item.code ≡ c
written_code code.Str n = refl
written_code code.Pascal n = refl
written_code _ n = refl

count_written : (c : FormatType) (n : ℕ) → IsTextOfCount (written c n).item.repeat (written c n).count_text
count_written code.Str n = inr (0, refl)
count_written code.Pascal n = inr (0, refl)
count_written _ n = inl (refl, refl)

no_padding : (a : ℕ) → padding a 0 ≡ 0
no_padding a = rw (zero-mod a) refl

abbrev end_of : Endianness → FormatType → ℕ → ℕ
end_of o c n = end_after o 0 (items_of_codes (written c n ∷ []))

one_unit : (o : Endianness) (c : FormatType) (n : ℕ) → eqb n (size_of o c) ≡ true → offset_after o 0 (code_at o 0 (record { repeat = 1; code = c })) ≡ n
one_unit o c n long =
    let none : padding (alignment_of o c) 0 ≡ 0 = no_padding (alignment_of o c) in
    let same : n ≡ size_of o c = eqb-true n (size_of o c) long in
    omega (arith, none, same)

ends_at : (o : Endianness) (c : FormatType) (n : ℕ) → IsTrue (is_length o c n) → end_of o c n ≡ n
ends_at o code.Str n long = let none : padding (alignment_of o code.Str) 0 ≡ 0 = no_padding (alignment_of o code.Str) in omega (arith, none)
ends_at o code.Pascal n long = let none : padding (alignment_of o code.Pascal) 0 ≡ 0 = no_padding (alignment_of o code.Pascal) in omega (arith, none)
ends_at o c n long = one_unit o c n long

-- ---- the format of a field

abbrev cut_by : Bool → Bool → Bool → Bool → Bool → ℕ → List ℕ → Endianness × List ℕ
cut_by b1 b2 b3 b4 b5 b rest = cond b1 (order.Native, rest) (cond b2 (order.Host, rest) (cond b3 (order.Little, rest) (cond b4 (order.Big, rest) (cond b5 (order.Big, rest) (order.Native, b ∷ rest)))))

abbrev WhichPrefix : Bool → Bool → Bool → Bool → Bool → ℕ → List ℕ → Type 0
WhichPrefix b1 b2 b3 b4 b5 b rest = IsPrefixOf (cut_by b1 b2 b3 b4 b5 b rest).0 (cond (b1 || (b2 || (b3 || (b4 || b5)))) (b ∷ []) [])

abbrev alone : ℕ → List ℕ
alone b = b ∷ []

which_prefix : (b1 b2 b3 b4 b5 : Bool) (b : ℕ) (rest : List ℕ) → (b1 ≡ true → b ≡ 64) → (b2 ≡ true → b ≡ 61) → (b3 ≡ true → b ≡ 60) → (b4 ≡ true → b ≡ 62) → (b5 ≡ true → b ≡ 33) → WhichPrefix b1 b2 b3 b4 b5 b rest
which_prefix true b2 b3 b4 b5 b rest e1 e2 e3 e4 e5 = inr (ap alone (e1 refl))
which_prefix false true b3 b4 b5 b rest e1 e2 e3 e4 e5 = ap alone (e2 refl)
which_prefix false false true b4 b5 b rest e1 e2 e3 e4 e5 = ap alone (e3 refl)
which_prefix false false false true b5 b rest e1 e2 e3 e4 e5 = inl (ap alone (e4 refl))
which_prefix false false false false true b rest e1 e2 e3 e4 e5 = inr (ap alone (e5 refl))
which_prefix false false false false false b rest e1 e2 e3 e4 e5 = inl refl

prefix_is : (text : List ℕ) → IsPrefixOf (prefix_of text).0 (prefix_text text)
prefix_is [] = inl refl
prefix_is (b ∷ rest) =
    which_prefix (eqb b 64) (eqb b 61) (eqb b 60) (eqb b 62) (eqb b 33) b rest (eqb-true b 64) (eqb-true b 61) (eqb-true b 60) (eqb-true b 62) (eqb-true b 33)

-- The format of a field is a format, and its items have the field's length.
pub record IsSpelled (text : List ℕ) (size : ℕ) : Type 0 where
  pub format : Format
  pub spelled : format_of text ≡ Ok format
  pub sized : format.size ≡ size

pub field_spelled : FormatsReadBack → (text : List ℕ) (f : Format) (k : ℕ) (place : Field) → format_of text ≡ Ok f → slice_get (fields f) k ≡ Some place → IsTrue (is_length f.order place.code place.length) → place.length < 2 ^ 63
    → IsSpelled (field_text text place) place.length
field_spelled reads text f k place is there long small =
    let o = (prefix_of text).0 in
    let w = written place.code place.length in
    let allowed = spelled_allowed text f k place is there in
    let long' : IsTrue (is_length o place.code place.length) = rw allowed.0 at long in
    let permitted : is_allowed o place.code ≡ true = rw allowed.0 at allowed.1 in
    let permitted' : IsTrue (is_allowed o w.item.code) = rw (written_code place.code place.length) permitted in
    let ends : end_of o place.code place.length ≡ place.length = ends_at o place.code place.length long' in
    let fits : end_of o place.code place.length < 2 ^ 63 = rw ends small in
    let again = reads o (prefix_text text) (w ∷ []) (prefix_is text) ((count_written place.code place.length, permitted'), tt) fits in
    let g : Format = again.0 in
    let spelled : format_of (prefix_text text ++ text_of_codes (w ∷ [])) ≡ Ok g = again.1 in
    let laid = laid_of (prefix_text text ++ text_of_codes (w ∷ [])) g spelled in
    let o' = (prefix_of (prefix_text text ++ text_of_codes (w ∷ []))).0 in
    let same : o' ≡ o = sym laid.order ∙ again.2 in
    let codes = laid_again o' 0 laid.items (g.codes, g.size) laid.laid in
    let items : laid.items ≡ items_of_codes (w ∷ []) = sym codes.0 ∙ again.3 in
    record {
      format = g;
      spelled = ap (λ (t : List ℕ). format_of (prefix_text text ++ t)) (written_text place.code place.length) ∙ spelled;
      sized = codes.1 ∙ ap (λ (all : List CountedCode). end_after o' 0 all) items ∙ ap (λ (p : Endianness). end_after p 0 (items_of_codes (w ∷ []))) same ∙ ends;
    }
