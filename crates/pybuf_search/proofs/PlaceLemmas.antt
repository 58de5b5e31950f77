-- A needle that is found fits in where it stands. If it is as long as the bytes, it can stand there only as all
-- of them.
use Rattle.std.proofs.Common.{◌≡◌, refl, sym, ap, ◌∙◌, arith, eq-eqb, true, ◌==◌, ◌&&◌, [], ◌∷◌, ℕ, ◌+◌, ◌≤◌, List, length, slice_index, Option, Some, None}
use Rattle.std.specs.Cmp.Lexicographic.{pointwise}
use Rattle.std.proofs.lemmas.List.{ext_get_or}
use Rattle.std.specs.Option.{IfSome}
use Rattle.memchr.specs.Find.{OccursAt, FindsNeedle, FindsLastNeedle}

pub found-fits : (bytes needle : List ℕ) (found : Option ℕ) → FindsNeedle bytes needle 0 found → IfSome found (λ place. place + length needle ≤ length bytes)
found-fits bytes needle None h = tt
found-fits bytes needle (Some place) h = h.1.fits

pub found-last-fits : (bytes needle : List ℕ) (found : Option ℕ) → FindsLastNeedle bytes needle found → IfSome found (λ place. place + length needle ≤ length bytes)
found-last-fits bytes needle None h = tt
found-last-fits bytes needle (Some place) h = h.1.fits

pub whole_alone : (bytes needle : List ℕ) (k : ℕ) → length bytes ≡ length needle → OccursAt bytes needle k → bytes ≡ needle
whole_alone bytes needle k same stands =
    let fits = stands.fits in
    let first : k ≡ 0 = omega arith in
    ext_get_or 0 bytes needle same (λ i inside.
    let at : i ≡ k + i = omega arith in
    ap (slice_index bytes) at ∙ stands.reads i (omega arith))

same_as_itself : (bytes : List ℕ) → pointwise ◌==◌ bytes bytes ≡ true
same_as_itself [] = refl
same_as_itself (byte ∷ bytes) = ap (λ t. t && pointwise ◌==◌ bytes bytes) (eq-eqb byte byte refl) ∙ same_as_itself bytes

pub same_by_test : (bytes needle : List ℕ) → bytes ≡ needle → pointwise ◌==◌ bytes needle ≡ true
same_by_test bytes needle same = ap (pointwise ◌==◌ bytes) (sym same) ∙ same_as_itself bytes
