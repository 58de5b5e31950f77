-- Bytes that lie apart, read in chunks.
use Rattle.std.proofs.Common.{◌≡◌, ℕ, zero, suc, ◌+◌, ◌*◌, ◌<◌, ◌≤◌, true, set, ltb, List, [], ◌∷◌, ◌++◌, length, take, drop, get_or, refl, sym, ap, ap₂, ◌∙◌, arith}
use Rattle.std.proofs.lemmas.Bool.{and_parts, ltb-true}
use Rattle.std.proofs.lemmas.List.{append_assoc, append-nil, length-append, length-set, take_all, take_more_set, get_or-take, get_or-drop}
use Rattle.std.proofs.lemmas.Simd.{take_more_put_chunk, length-put_chunk}
use lib.Lanes.{pick_l, all_below, put_chunk}
use Rattle.pybuf_lanes.specs.Gathers.{every}

-- lanes of the first bytes are those of all
pub of_first : (n : ℕ) (bytes lanes : List ℕ) → all_below n lanes ≡ true → pick_l 0 (take n bytes) lanes ≡ pick_l 0 bytes lanes
of_first n bytes [] all = refl
of_first n bytes (lane ∷ lanes) all =
    let parts = and_parts (ltb lane n) (all_below n lanes) all in
    ap₂ (λ b bs. b ∷ bs) (get_or-take n bytes lane 0 (ltb-true lane n parts.0)) (of_first n bytes lanes parts.1)

-- so many bytes more, from where the first ones end
pub more_of_every : (step at n : ℕ) (bytes more : List ℕ) → more ≡ every step n (drop (step * at) bytes) → every step at bytes ++ more ≡ every step (at + n) bytes
more_of_every step at n bytes more is = ap (λ l. every step at bytes ++ l) is ∙ by_number n
  where
    by_number : (n : ℕ) → every step at bytes ++ every step n (drop (step * at) bytes) ≡ every step (at + n) bytes
    by_number zero =
        let same : at ≡ at + 0 = omega arith in
        append-nil (every step at bytes) ∙ ap (λ k. every step k bytes) same
    by_number (suc n) =
        let place : step * at + step * n ≡ step * (at + n) = grind arith in
        let next : suc (at + n) ≡ at + suc n = omega arith in
        sym (append_assoc (every step at bytes) (every step n (drop (step * at) bytes)) (get_or (drop (step * at) bytes) (step * n) 0 ∷ []))
        ∙ ap₂ (λ (front : List ℕ) (b : ℕ). front ++ b ∷ []) (by_number n) (get_or-drop (step * at) bytes (step * n) 0 ∙ ap (λ k. get_or bytes k 0) place)
        ∙ ap (λ k. every step k bytes) next

pub length-every : (step n : ℕ) (bytes : List ℕ) → length (every step n bytes) ≡ n
length-every step zero bytes = refl
length-every step (suc n) bytes = omega (arith, length-append (every step n bytes) (get_or bytes (step * n) 0 ∷ []), length-every step n bytes)

-- so many bytes are in the front of a room of a length
pub record IsGathered (step : ℕ) (source : List ℕ) (len : ℕ) (room : List ℕ) (at : ℕ) : Type 0 where
  pub inside : at ≤ len
  pub long : length room ≡ len
  pub gathered : take at room ≡ every step at source

pub one_chunk_gathered : (step : ℕ) (source : List ℕ) (len : ℕ) (room lanes : List ℕ) (at : ℕ) → IsGathered step source len room at → lanes ≡ every step 16 (drop (step * at) source) → at + 16 ≤ len
    → IsGathered step source len (put_chunk at room lanes) (at + 16)
one_chunk_gathered step source len room lanes at old is fits =
    let many : length lanes ≡ 16 = ap length is ∙ length-every step 16 (drop (step * at) source) in
    record {
      inside = fits;
      long = length-put_chunk at room lanes ∙ old.long;
      gathered = take_more_put_chunk at room lanes (at + 16) (omega (arith, many)) (omega (arith, many, old.long))
          ∙ ap (λ l. l ++ lanes) old.gathered
          ∙ more_of_every step at 16 source lanes is;
    }

pub one_gathered : (step : ℕ) (source : List ℕ) (len : ℕ) (room : List ℕ) (at : ℕ) → IsGathered step source len room at → at < len
    → IsGathered step source len (set room at (get_or source (step * at) 0)) (at + 1)
one_gathered step source len room at old more =
    let b = get_or source (step * at) 0 in
    let next : suc at ≡ at + 1 = omega arith in
    record {
      inside = omega (arith, more);
      long = length-set room at b ∙ old.long;
      gathered = take_more_set room at b (omega (arith, more, old.long))
          ∙ ap (λ l. l ++ b ∷ []) old.gathered
          ∙ ap (λ k. every step k source) next;
    }

pub all_gathered : (step : ℕ) (source : List ℕ) (len : ℕ) (room : List ℕ) (at : ℕ) → IsGathered step source len room at → len ≤ at → room ≡ every step len source
all_gathered step source len room at old done =
    let whole : at ≡ len = omega (arith, done, old.inside) in
    sym (take_all at room (omega (arith, done, old.long))) ∙ old.gathered ∙ ap (λ k. every step k source) whole
