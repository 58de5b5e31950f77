-- Fields begin at multiples of their alignment.
use Rattle.std.proofs.Common.{◌≡◌, ℕ, zero, suc, ◌+◌, ◌-◌, ◌%◌, ◌^◌, Bool, true, false, cond, eqb, ltb, List, [], ◌∷◌, ◌++◌, Option, Some, None, refl, subst, arith}
use Rattle.std.specs.Prelude.{IsTrue}
use Rattle.std.specs.List.{AllByRecursion}
use Rattle.std.proofs.lemmas.Bool.{eqb-true}
use Rattle.pybuf_struct.specs.Facts.{by_width}
use Rattle.pybuf_struct.specs.declared.table.Endianness.{Endianness}
use Rattle.pybuf_struct.specs.declared.table.Endianness.TheVariants as order
use Rattle.pybuf_struct.specs.declared.table.FormatType.{FormatType}
use Rattle.pybuf_struct.specs.declared.table.FormatType.TheVariants as code
use Rattle.pybuf_struct.specs.Table.{size_of, native_alignment, alignment_of}
use Rattle.pybuf_struct.specs.Digits.{is_width}
use Rattle.pybuf_value.specs.Choosing.{◌>>=◌}
use Rattle.pybuf_struct.specs.Formats.{CountedCode, Code, Format, Field, padding, codes_in, layout_from, format_after_prefix, code_at, offset_after, fields_in_row, fields_of_code, fields_from, fields}
use Rattle.pybuf_struct.specs.Laws.{IsAligned}

abbrev some : {A : Type 0} → A → Option A
some x = Some x

native_width : (c : FormatType) → IsTrue (is_width (native_alignment c))
native_width code.Pad = refl
native_width _ = refl

alignment_width : (o : Endianness) (c : FormatType) → IsTrue (is_width (alignment_of o c))
alignment_width order.Native c = native_width c
alignment_width _ c = refl

native_units : (c : FormatType) → size_of order.Native c % native_alignment c ≡ 0
native_units code.Pad = refl
native_units _ = refl

units_aligned : (o : Endianness) (c : FormatType) → size_of o c % alignment_of o c ≡ 0
units_aligned order.Native c = native_units c
units_aligned _ c = omega arith

-- ---- numbers

abbrev Padded : ℕ → Type 0
Padded a = (offset : ℕ) (r : Bool) → eqb (offset % a) 0 ≡ r → (offset + cond r 0 (a - offset % a)) % a ≡ 0

padded_one : Padded 1
padded_one offset r e = omega arith

padded_two : Padded 2
padded_two offset true e = omega (arith, eqb-true (offset % 2) 0 e)
padded_two offset false e = omega arith

padded_four : Padded 4
padded_four offset true e = omega (arith, eqb-true (offset % 4) 0 e)
padded_four offset false e = omega arith

padded_eight : Padded 8
padded_eight offset true e = omega (arith, eqb-true (offset % 8) 0 e)
padded_eight offset false e = omega arith

padded : (a offset : ℕ) → IsTrue (is_width a) → (offset + padding a offset) % a ≡ 0
padded a offset w = by_width Padded padded_one padded_two padded_four padded_eight a w offset (eqb (offset % a) 0) refl

abbrev Stepped : ℕ → Type 0
Stepped a = (x s : ℕ) → x % a ≡ 0 → s % a ≡ 0 → (x + s) % a ≡ 0

stepped : (a : ℕ) → IsTrue (is_width a) → Stepped a
stepped a w = by_width Stepped (λ x s p q. omega arith) (λ x s p q. omega arith) (λ x s p q. omega arith) (λ x s p q. omega arith) a w

-- ---- fields

row_aligned : (o : Endianness) (c : FormatType) (offset n : ℕ) → offset % alignment_of o c ≡ 0 → AllByRecursion (IsAligned o) (fields_in_row c (size_of o c) offset n)
row_aligned o c offset zero at = tt
row_aligned o c offset (suc n) at = (at, row_aligned o c (offset + size_of o c) n (stepped (alignment_of o c) (alignment_width o c) offset (size_of o c) at (units_aligned o c)))

code_aligned : (o : Endianness) (c : FormatType) (offset n : ℕ) → offset % alignment_of o c ≡ 0 → AllByRecursion (IsAligned o) (fields_of_code c (size_of o c) offset n)
code_aligned o code.Pad offset n at = tt
code_aligned o code.Str offset n at = (at, tt)
code_aligned o code.Pascal offset n at = (at, tt)
code_aligned o c offset n at = row_aligned o c offset n at

both : (o : Endianness) (fs gs : List Field) → AllByRecursion (IsAligned o) fs → AllByRecursion (IsAligned o) gs → AllByRecursion (IsAligned o) (fs ++ gs)
both o [] gs s t = t
both o (f ∷ fs) gs s t = (s.0, both o fs gs s.1 t)

-- ---- the layout

abbrev with_code : Code → List Code × ℕ → Option (List Code × ℕ)
with_code c l = Some (c ∷ l.0, l.1)

abbrev AlignedFrom : Endianness → ℕ → List Code × ℕ → Type 0
AlignedFrom o offset l = AllByRecursion (IsAligned o) (fields_from o offset l.0)

laid_by : (o : Endianness) (offset : ℕ) (item : CountedCode) (r : Bool) (rest : Option (List Code × ℕ)) (l : List Code × ℕ) → ((k : List Code × ℕ) → rest ≡ some k → AlignedFrom o (offset_after o offset (code_at o offset item)) k)
    → cond r (rest >>= with_code (code_at o offset item)) None ≡ some l → AlignedFrom o offset l
laid_by o offset item false rest l after is = absurd cc
laid_by o offset item true None l after is = absurd cc
laid_by o offset item true (Some k) l after is =
    let same : (code_at o offset item ∷ k.0, k.1) ≡ l = cc in
    let start : (offset + padding (alignment_of o item.code) offset) % alignment_of o item.code ≡ 0 = padded (alignment_of o item.code) offset (alignment_width o item.code) in
    subst (AlignedFrom o offset) same (both o (fields_of_code item.code (size_of o item.code) (offset + padding (alignment_of o item.code) offset) item.repeat) (fields_from o (offset_after o offset (code_at o offset item)) k.0)
    (code_aligned o item.code (offset + padding (alignment_of o item.code) offset) item.repeat start) (after k refl))

laid_aligned : (o : Endianness) (offset : ℕ) (items : List CountedCode) (l : List Code × ℕ) → layout_from o offset items ≡ some l → AlignedFrom o offset l
unfolding layout_from
laid_aligned o offset [] l is =
    let nothing : List Code × ℕ = ([], offset) in
    let same : nothing ≡ l = cc in
    subst (AlignedFrom o offset) same tt
laid_aligned o offset (item ∷ items) l is =
    laid_by o offset item (ltb (offset_after o offset (code_at o offset item)) (2 ^ 63)) (layout_from o (offset_after o offset (code_at o offset item)) items) l
    (λ k e. laid_aligned o (offset_after o offset (code_at o offset item)) items k e) is

abbrev format_with : Endianness → List Code × ℕ → Format
format_with o l = record { order = o; codes = l.0; size = l.1 }

spelled_by : (o : Endianness) (layout : Option (List Code × ℕ)) (f : Format) → ((k : List Code × ℕ) → layout ≡ some k → AlignedFrom o 0 k) → (layout >>= λ l. Some (format_with o l)) ≡ some f → AllByRecursion (IsAligned f.order) (fields f)
spelled_by o None f aligned is = absurd cc
spelled_by o (Some l) f aligned is =
    let same : format_with o l ≡ f = cc in
    subst (λ (g : Format). AllByRecursion (IsAligned g.order) (fields g)) same (aligned l refl)

spelled_items : (o : Endianness) (items : Option (List CountedCode)) (f : Format) → (items >>= λ i. layout_from o 0 i >>= λ l. Some (format_with o l)) ≡ some f → AllByRecursion (IsAligned f.order) (fields f)
spelled_items o None f is = absurd cc
spelled_items o (Some items) f is = spelled_by o (layout_from o 0 items) f (λ k e. laid_aligned o 0 items k e) is

pub spelled_aligned : (o : Endianness) (text : List ℕ) (f : Format) → format_after_prefix o text ≡ Some f → AllByRecursion (IsAligned f.order) (fields f)
unfolding format_after_prefix
spelled_aligned o text f is = spelled_items o (codes_in o text) f is
