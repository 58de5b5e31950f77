-- A format that a text spells fills its size.
use Rattle.std.proofs.Common.{◌≡◌, ℕ, ◌+◌, ◌^◌, Bool, true, false, cond, ltb, List, [], ◌∷◌, Option, Some, None, Ok, refl, subst, arith}
use Rattle.pybuf_struct.specs.Facts.{ok_or_some}
use Rattle.pybuf_struct.specs.declared.table.Endianness.{Endianness}
use Rattle.pybuf_value.specs.Choosing.{◌>>=◌}
use Rattle.pybuf_struct.specs.Formats.{CountedCode, Code, Format, codes_in, layout_from, format_after_prefix, format_of, prefix_of, code_at, offset_after, extent}

abbrev some : {A : Type 0} → A → Option A
some x = Some x

abbrev with_code : Code → List Code × ℕ → Option (List Code × ℕ)
with_code c l = Some (c ∷ l.0, l.1)

abbrev Fills-from : Endianness → ℕ → List Code × ℕ → Type 0
Fills-from o offset l = offset + extent o l.0 ≡ l.1

laid_by : (o : Endianness) (offset : ℕ) (c : Code) (r : Bool) (rest : Option (List Code × ℕ)) (l : List Code × ℕ) → ((k : List Code × ℕ) → rest ≡ some k → Fills-from o (offset_after o offset c) k) → cond r (rest >>= with_code c) None ≡ some l → Fills-from o offset l
laid_by o offset c false rest l after is = absurd cc
laid_by o offset c true None l after is = absurd cc
laid_by o offset c true (Some k) l after is =
    let same : (c ∷ k.0, k.1) ≡ l = cc in
    let rest_fills : offset_after o offset c + extent o k.0 ≡ k.1 = after k refl in
    subst (Fills-from o offset) same (omega (arith, rest_fills))

laid_fills : (o : Endianness) (offset : ℕ) (items : List CountedCode) (l : List Code × ℕ) → layout_from o offset items ≡ some l → Fills-from o offset l
unfolding layout_from
laid_fills o offset [] l is =
    let nothing : List Code × ℕ = ([], offset) in
    let same : nothing ≡ l = cc in
    subst (Fills-from o offset) same (omega arith)
laid_fills o offset (item ∷ items) l is =
    laid_by o offset (code_at o offset item) (ltb (offset_after o offset (code_at o offset item)) (2 ^ 63)) (layout_from o (offset_after o offset (code_at o offset item)) items) l
    (λ k e. laid_fills o (offset_after o offset (code_at o offset item)) items k e) is

abbrev format_with : Endianness → List Code × ℕ → Format
format_with o l = record { order = o; codes = l.0; size = l.1 }

abbrev laid_format : Endianness → List CountedCode → Option Format
laid_format o items = layout_from o 0 items >>= λ l. Some (format_with o l)

spelled_by : (o : Endianness) (layout : Option (List Code × ℕ)) (f : Format) → ((k : List Code × ℕ) → layout ≡ some k → Fills-from o 0 k) → (layout >>= λ l. Some (format_with o l)) ≡ some f → extent f.order f.codes ≡ f.size
spelled_by o None f fills is = absurd cc
spelled_by o (Some l) f fills is =
    let same : format_with o l ≡ f = cc in
    let whole : 0 + extent o l.0 ≡ l.1 = fills l refl in
    subst (λ (g : Format). extent g.order g.codes ≡ g.size) same (omega (arith, whole))

spelled_items : (o : Endianness) (items : Option (List CountedCode)) (f : Format) → (items >>= laid_format o) ≡ some f → extent f.order f.codes ≡ f.size
spelled_items o None f is = absurd cc
spelled_items o (Some items) f is = spelled_by o (layout_from o 0 items) f (λ k e. laid_fills o 0 items k e) is

spelled_fills : (o : Endianness) (text : List ℕ) (f : Format) → format_after_prefix o text ≡ some f → extent f.order f.codes ≡ f.size
unfolding format_after_prefix
spelled_fills o text f is = spelled_items o (codes_in o text) f is

pub format_fills : (text : List ℕ) (f : Format) → format_of text ≡ Ok f → extent f.order f.codes ≡ f.size
format_fills text f is = spelled_fills (prefix_of text).0 (prefix_of text).1 f (ok_or_some (format_after_prefix (prefix_of text).0 (prefix_of text).1) f is)
