-- Bytes that are copied from the last to the first.
use Rattle.std.proofs.Common.{◌≡◌, ℕ, ◌+◌, ◌-◌, ◌<◌, ◌≤◌, set, List, [], ◌∷◌, ◌++◌, length, take, drop, reverse, get_or, refl, sym, ap, ap₂, ◌∙◌, arith}
use Rattle.std.proofs.lemmas.List.{length-set, length-reverse, reverse-append, take_all, take_more_set, drop_more, drop_all}
use Rattle.std.proofs.lemmas.Simd.{chunk-drop, length-chunk, take_more_put_chunk, length-put_chunk}
use lib.Lanes.{chunk, put_chunk}

-- so many bytes from the end are in the front of a room of a length, the last first
pub record IsTurned (source : List ℕ) (len : ℕ) (room : List ℕ) (at : ℕ) : Type 0 where
  pub inside : at ≤ len
  pub whole : length source ≡ len
  pub long : length room ≡ len
  pub turned : take at room ≡ reverse (drop (len - at) source)

pub none_turned : (source : List ℕ) (len : ℕ) (room : List ℕ) → len ≡ length source → length room ≡ len → IsTurned source len room 0
none_turned source len room whole long = record {
  inside = omega arith;
  whole = sym whole;
  long = long;
  turned = sym (ap reverse (drop_all (len - 0) source (omega (arith, whole))));
}

-- what stands before a place comes last
turned-drop : (source piece : List ℕ) (from to : ℕ) → drop from source ≡ piece ++ drop to source → reverse (drop from source) ≡ reverse (drop to source) ++ reverse piece
turned-drop source piece from to parts = ap reverse parts ∙ reverse-append piece (drop to source)

pub one_chunk_turned : (source : List ℕ) (len : ℕ) (room lanes : List ℕ) (at : ℕ) → IsTurned source len room at → at + 16 ≤ len → lanes ≡ reverse (chunk (len - at - 16) 16 source)
    → IsTurned source len (put_chunk at room lanes) (at + 16)
one_chunk_turned source len room lanes at old fits is =
    let from : ℕ = len - at - 16 in
    let piece : List ℕ = chunk from 16 source in
    let many : length lanes ≡ 16 = ap length is ∙ length-reverse piece ∙ length-chunk from 16 source (omega (arith, fits, old.whole)) in
    let next : from + 16 ≡ len - at = omega (arith, fits) in
    let start : from ≡ len - (at + 16) = omega (arith, fits) in
    let parts : drop from source ≡ piece ++ drop (len - at) source = chunk-drop from 16 source ∙ ap (λ (k : ℕ). piece ++ drop k source) next in
    record {
      inside = fits;
      whole = old.whole;
      long = length-put_chunk at room lanes ∙ old.long;
      turned = take_more_put_chunk at room lanes (at + 16) (omega (arith, many)) (omega (arith, many, fits, old.long))
          ∙ ap₂ (λ (xs ys : List ℕ). xs ++ ys) old.turned is
          ∙ sym (turned-drop source piece from (len - at) parts)
          ∙ ap (λ (k : ℕ). reverse (drop k source)) start;
    }

pub one_turned : (source : List ℕ) (len : ℕ) (room : List ℕ) (at : ℕ) → IsTurned source len room at → at < len
    → IsTurned source len (set room at (get_or source (len - at - 1) 0)) (at + 1)
one_turned source len room at old more =
    let from : ℕ = len - at - 1 in
    let b : ℕ = get_or source from 0 in
    let next : from + 1 ≡ len - at = omega (arith, more) in
    let start : from ≡ len - (at + 1) = omega (arith, more) in
    let parts : drop from source ≡ (b ∷ []) ++ drop (len - at) source = drop_more source from 0 (omega (arith, more, old.whole)) ∙ ap (λ (k : ℕ). b ∷ drop k source) next in
    let alone : reverse (b ∷ []) ≡ b ∷ [] = refl in
    record {
      inside = omega (arith, more);
      whole = old.whole;
      long = length-set room at b ∙ old.long;
      turned = take_more_set room at b (omega (arith, more, old.long))
          ∙ ap (λ (xs : List ℕ). xs ++ b ∷ []) old.turned
          ∙ ap (λ (ys : List ℕ). reverse (drop (len - at) source) ++ ys) (sym alone)
          ∙ sym (turned-drop source (b ∷ []) from (len - at) parts)
          ∙ ap (λ (k : ℕ). reverse (drop k source)) start;
    }

pub all_turned : (source : List ℕ) (len : ℕ) (room : List ℕ) (at : ℕ) → IsTurned source len room at → len ≤ at → room ≡ reverse source
all_turned source len room at old done =
    let none : len - at ≡ 0 = omega (arith, done) in
    sym (take_all at room (omega (arith, done, old.long))) ∙ old.turned ∙ ap (λ (k : ℕ). reverse (drop k source)) none
