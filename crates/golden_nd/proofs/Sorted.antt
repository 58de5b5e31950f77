-- Lists whose numbers are their places, and orders of such numbers.
use Rattle.std.proofs.Common.{◌≡◌, ℕ, ◌<◌, ◌+◌, List, length, get_or, refl, sym, ◌∙◌, subst, arith, IsPermutation}
use Rattle.std.specs.List.{range_with_len}
use Rattle.std.proofs.lemmas.List.{ext_get_or}
use Rattle.std.proofs.lemmas.List.Sorted.{IsPermutation-sym}
use Rattle.std.proofs.lemmas.List.FromFn.{length-range_with_len, get_or-range_with_len}
use Rattle.pybuf_nd.specs.Axes.{AreAxes}

pub their_places : (numbers : List ℕ) → ((k : ℕ) → k < length numbers → get_or numbers k 0 ≡ k) → numbers ≡ range_with_len 0 (length numbers)
their_places numbers each =
    ext_get_or 0 numbers (range_with_len 0 (length numbers)) (sym (length-range_with_len 0 (length numbers)))
    (λ k below. each k below ∙ (let e : k ≡ 0 + k = omega arith in e) ∙ sym (get_or-range_with_len 0 (length numbers) k 0 below))

pub axes_so : (numbers copied sorted : List ℕ) (count : ℕ) → copied ≡ numbers → length copied ≡ count → IsPermutation copied sorted → length sorted ≡ length copied
    → sorted ≡ range_with_len 0 (length sorted) → AreAxes count numbers
axes_so numbers copied sorted count same long moved longs places =
    subst (λ (xs : List ℕ). IsPermutation (range_with_len 0 count) xs) same
    (subst (λ (xs : List ℕ). IsPermutation xs copied)
    (places ∙ subst (λ (n : ℕ). range_with_len 0 (length sorted) ≡ range_with_len 0 n) (longs ∙ long) (let e : range_with_len 0 (length sorted) ≡ range_with_len 0 (length sorted) = refl in e))
    (IsPermutation-sym copied sorted moved))
