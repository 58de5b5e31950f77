-- The numbers of a slice in the code go over bits, and are those of the definition.
use Rattle.std.proofs.Common.{◌≡◌, ℕ, ◌+◌, ◌<◌, ◌≤◌, ℤ, pos, negsuc, ◌+ℤ◌, ◌*ℤ◌, ◌≤ℤ◌, ◌<ℤ◌, List, length, ap, ap₂, sym, ◌∙◌, subst, arith, SFits, w64, to_z, of_z}
use Rattle.std.proofs.lemmas.Int.{ints, to_z-of_z}
use Rattle.pybuf_index.specs.Parts.{SliceParts, IsSaturated, picks_of, nearest_word}
use Rattle.pybuf_index.specs.Runs.{picks_in_span}
use Rattle.pybuf_desc.specs.Descriptor.{Descriptor}
use Rattle.pybuf_desc.specs.Valid.{IsPlaced}
use Rattle.pybuf_desc.proofs.Moves.{dim_at}
use Rattle.pybuf_desc.proofs.Cuts.{span_first}
use Rattle.pybuf_desc.proofs.SliceMade.{IsCall, made_of}

abbrev pub bits : ℤ → ℤ
bits z = to_z w64 (of_z w64 z)

pub call_of : (d : Descriptor) (start : ℕ) (dims : List (ℕ × ℤ × ℤ)) (parts : SliceParts) (low high count : ℕ) (step : ℤ)
    → dims ≡ d.dims → IsPlaced d start → 0 < length d.dims → IsSaturated parts → step ≡ parts.step
    → picks_in_span low high step ≡ picks_of (dim_at dims 0).0 parts → count ≡ length (picks_of (dim_at dims 0).0 parts) → high ≤ (dim_at dims 0).0
    → IsCall d start parts low high count
call_of d start dims parts low high count step e placed some saturated s picks n within =
    record {
      placed = placed;
      some = some;
      saturated = saturated;
      picks = ap (λ t. picks_in_span low high t) (sym s) ∙ picks ∙ ap (λ ds. picks_of (dim_at ds 0).0 parts) e;
      count_is = n ∙ ap (λ ds. length (picks_of (dim_at ds 0).0 parts)) e;
      within = subst (λ ds. high ≤ (dim_at ds 0).0) e within;
    }

pub stride_is : (d : Descriptor) (dims : List (ℕ × ℤ × ℤ)) (parts : SliceParts) (r t : ℤ) → dims ≡ d.dims → SFits w64 r → SFits w64 (dim_at dims 0).1 → SFits w64 t → t ≡ parts.step
    → r ≡ nearest_word (bits (dim_at dims 0).1 *ℤ bits t) → bits r ≡ nearest_word ((dim_at d.dims 0).1 *ℤ parts.step)
stride_is d dims parts r t e fr fs ft step h =
    to_z-of_z w64 r fr ∙ h ∙ ap nearest_word (ap₂ (λ a b. a *ℤ b) (to_z-of_z w64 (dim_at dims 0).1 fs ∙ ap (λ ds. (dim_at ds 0).1) e) (to_z-of_z w64 t ft ∙ step))

first_of : (low high first : ℕ) (t : ℤ) → low < high → (pos 0 ≤ℤ t → first ≡ low) → (t <ℤ pos 0 → first + 1 ≡ high) → pos first ≡ span_first low high t
first_of low high first (pos s) h rises falls = ap (λ n. pos n) (rises (omega (arith, ints)))
first_of low high first (negsuc s) h rises falls = let top : first + 1 ≡ high = falls (omega (arith, ints)) in omega (arith, ints, top)

pub first_is : (low high first : ℕ) (t step : ℤ) → SFits w64 t → t ≡ step → low < high → (pos 0 ≤ℤ bits t → first ≡ low) → (bits t <ℤ pos 0 → first + 1 ≡ high) → pos first ≡ span_first low high step
first_is low high first t step f e h rises falls =
    let same : bits t ≡ step = to_z-of_z w64 t f ∙ e in
    first_of low high first step h (λ g. rises (subst (λ z. pos 0 ≤ℤ z) (sym same) g)) (λ g. falls (subst (λ z. z <ℤ pos 0) (sym same) g))

pub next_is : (d : Descriptor) (dims : List (ℕ × ℤ × ℤ)) (start next first : ℕ) (at : ℤ) → dims ≡ d.dims → SFits w64 (dim_at dims 0).1 → pos first ≡ at
    → pos next ≡ pos start +ℤ pos first *ℤ bits (dim_at dims 0).1 → pos next ≡ pos start +ℤ at *ℤ (dim_at d.dims 0).1
next_is d dims start next first at e f g h =
    h ∙ ap₂ (λ a b. pos start +ℤ a *ℤ b) g (to_z-of_z w64 (dim_at dims 0).1 f ∙ ap (λ ds. (dim_at ds 0).1) e)

-- the stride of the first dimension, over bits
pub stride_bits : (d : Descriptor) (dims : List (ℕ × ℤ × ℤ)) → dims ≡ d.dims → SFits w64 (dim_at dims 0).1 → (dim_at d.dims 0).1 ≡ bits (dim_at dims 0).1
stride_bits d dims e f = sym (to_z-of_z w64 (dim_at dims 0).1 f ∙ ap (λ ds. (dim_at ds 0).1) e)

pub descriptor_is : (d x : Descriptor) (len count : ℕ) (r stride : ℤ) → r ≡ stride → x ≡ made_of d len count r → made_of d len count stride ≡ x
descriptor_is d x len count r stride e h = sym (h ∙ ap (λ z. made_of d len count z) e)
