-- The places of a line, by steps that lead up or down.
use Rattle.std.proofs.Common.{◌≡◌, ℕ, zero, suc, ◌+◌, ◌-◌, ◌*◌, ◌<◌, ◌≤◌, ℤ, pos, negsuc, ◌+ℤ◌, nat_abs, Bool, true, false, [], ◌∷◌, map, refl, ap, ap₂, sym, ◌∙◌, subst, arith}
use Rattle.std.specs.Int.Signed.{lt_z}
use Rattle.std.specs.List.{range_with_len}
use Rattle.pybuf_lemmas.proofs.Numbers.{step_below_start, place_a_step_lower, next_lower_place, place_below_start, natural_is_not_below_zero}
use Rattle.pybuf_desc.specs.Segments.{line, range_at}
use Rattle.pybuf_desc.specs.SegmentLines.{range_on}
use Rattle.pybuf_desc.proofs.WalkLemmas.{AllInside}

rising : (start step size j count : ℕ) → map (range_on false start step size) (range_with_len j count) ≡ map (range_at size) (line (pos (start + j * step)) (pos step) count)
rising start step size j zero = refl
rising start step size j (suc count) =
    let next : start + (j + 1) * step ≡ (start + j * step) + step = grind arith in
    ap (λ xs. range_on false start step size j ∷ xs)
    (rising start step size (j + 1) count ∙ ap (λ (p : ℕ). map (range_at size) (line (pos p) (pos step) count)) next)

falling : (start n size j a count : ℕ) → a + j * suc n ≡ start → AllInside size (line (pos a) (negsuc n) count)
    → map (range_on true start (suc n) size) (range_with_len j count) ≡ map (range_at size) (line (pos a) (negsuc n) count)
falling start n size j a zero at all = refl
falling start n size j a (suc zero) at all =
    ap (λ (p : ℕ). range_at size (pos p) ∷ []) (place_below_start start (j * suc n) a at)
falling start n size j a (suc (suc count)) at all =
    let low : suc n ≤ a = step_below_start a n all.1.0.low in
    let next : pos a +ℤ negsuc n ≡ pos (a - suc n) = place_a_step_lower a n low in
    ap₂ (λ (p : ℕ) xs. range_at size (pos p) ∷ xs) (place_below_start start (j * suc n) a at)
    (falling start n size (j + 1) (a - suc n) (suc count) (next_lower_place start n j a at low) (subst (λ (p : ℤ). AllInside size (line p (negsuc n) (suc count))) next all.1)
    ∙ ap (λ (p : ℤ). map (range_at size) (line p (negsuc n) (suc count))) (sym next))

falling_low : (start n size j a count : ℕ) → a + j * suc n ≡ start → AllInside size (line (pos a) (negsuc n) count) → (k : ℕ) → k < count → (j + k) * suc n ≤ start
falling_low start n size j a zero at all k less = absurd (omega (arith, less))
falling_low start n size j a (suc count) at all zero less =
    let same : (j + 0) * suc n ≡ j * suc n = grind arith in
    omega (arith, at, same)
falling_low start n size j a (suc zero) at all (suc k) less = absurd (omega (arith, less))
falling_low start n size j a (suc (suc count)) at all (suc k) less =
    let low : suc n ≤ a = step_below_start a n all.1.0.low in
    let next : pos a +ℤ negsuc n ≡ pos (a - suc n) = place_a_step_lower a n low in
    let same : ((j + 1) + k) * suc n ≡ (j + suc k) * suc n = grind arith in
    let fewer : k < suc count = omega (arith, less) in
    let rest = falling_low start n size (j + 1) (a - suc n) (suc count) (next_lower_place start n j a at low) (subst (λ (p : ℤ). AllInside size (line p (negsuc n) (suc count))) next all.1) k fewer in
    omega (arith, same, rest)

-- a line that goes by steps up or down
pub record IsByTrack (start : ℕ) (stride : ℤ) (count size step : ℕ) (falls : Bool) : Type 0 where
  pub ranges : map (range_on falls start step size) (range_with_len 0 count) ≡ map (range_at size) (line (pos start) stride count)
  pub low : (k : ℕ) → k < count → falls ≡ true → k * step ≤ start

not_falling : (start : ℕ) (stride : ℤ) (count size step : ℕ) → map (range_on false start step size) (range_with_len 0 count) ≡ map (range_at size) (line (pos start) stride count) → IsByTrack start stride count size step false
not_falling start stride count size step ranges = record {
  ranges = ranges;
  low = λ k less falls. absurd (cc);
}

by_sign : (start : ℕ) (stride : ℤ) (count size : ℕ) → AllInside size (line (pos start) stride count) → IsByTrack start stride count size (nat_abs stride) (lt_z stride (pos 0))
by_sign start (pos n) count size all =
    let at : start + 0 * n ≡ start = grind arith in
    subst (λ (b : Bool). IsByTrack start (pos n) count size n b) (sym (natural_is_not_below_zero n))
    (not_falling start (pos n) count size n (rising start n size 0 count ∙ ap (λ (p : ℕ). map (range_at size) (line (pos p) (pos n) count)) at))
by_sign start (negsuc n) count size all =
    let at : start + 0 * suc n ≡ start = grind arith in
    record {
      ranges = falling start n size 0 start count at all;
      low = λ k less falls. (let same : (0 + k) * suc n ≡ k * suc n = grind arith in let here = falling_low start n size 0 start count at all k less in omega (arith, same, here));
    }

pub by_track : (start : ℕ) (stride : ℤ) (count size step : ℕ) (falls : Bool) → step ≡ nat_abs stride → falls ≡ lt_z stride (pos 0) → AllInside size (line (pos start) stride count)
    → IsByTrack start stride count size step falls
by_track start stride count size step falls long sign all =
    subst (λ (n : ℕ). IsByTrack start stride count size n falls) (sym long)
    (subst (λ (b : Bool). IsByTrack start stride count size (nat_abs stride) b) (sym sign) (by_sign start stride count size all))
