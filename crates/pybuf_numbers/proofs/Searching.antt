-- The first place of a list at which a test passes.
use Rattle.std.proofs.Common.{◌≡◌, ℕ, zero, suc, ◌+◌, ◌<◌, List, [], ◌∷◌, length, Bool, true, false, refl, ap, ◌∙◌, arith, slice_get, Some}
use Rattle.std.specs.Prelude.{None}
use Rattle.std.specs.List.{position, position_or_len}
use Rattle.std.proofs.lemmas.Bool.{lt-ltb, le-ltb}

-- None of the first elements passes.
abbrev pub Passed : {X : Type 0} → (X → Bool) → List X → ℕ → Type 0
Passed {X} p xs n = (k : ℕ) (x : X) → k < n → slice_get xs k ≡ Some x → p x ≡ false

found_at : {X : Type 0} (p : X → Bool) (xs : List X) (i : ℕ) (x : X) → Passed p xs i → slice_get xs i ≡ Some x → p x ≡ true → (position_or_len p xs ≡ i) × (i < length xs)
found_at p [] i x passed is passes = absurd cc
found_at p (y ∷ ys) zero x passed is passes = let same : y ≡ x = cc in let here : p y ≡ true = ap p same ∙ passes in rw here (refl, omega arith)
found_at p (y ∷ ys) (suc i) x passed is passes =
    let other : p y ≡ false = passed 0 y (omega arith) refl in
    let rest = found_at p ys i x (λ k z below at. passed (suc k) z (omega arith) at) is passes in
    rw other (ap (λ n. 1 + n) rest.0 ∙ omega arith, omega (arith, rest.1))

none_there : {X : Type 0} (p : X → Bool) (xs : List X) → Passed p xs (length xs) → position_or_len p xs ≡ length xs
none_there p [] passed = refl
none_there p (y ∷ ys) passed =
    let other : p y ≡ false = passed 0 y (omega arith) refl in
    rw other (ap (λ n. 1 + n) (none_there p ys (λ k z below at. passed (suc k) z (omega arith) at)) ∙ omega arith)

pub position_found : {X : Type 0} (p : X → Bool) (xs : List X) (i : ℕ) (x : X) → Passed p xs i → slice_get xs i ≡ Some x → p x ≡ true → position p xs ≡ Some i
position_found p xs i x passed is passes =
    let found = found_at p xs i x passed is passes in
    let at : position_or_len p xs ≡ i = found.0 in
    rw at (rw (lt-ltb _ _ found.1) refl)

pub position_none : {X : Type 0} (p : X → Bool) (xs : List X) → Passed p xs (length xs) → position p xs ≡ None
position_none p xs passed = let at : position_or_len p xs ≡ length xs = none_there p xs passed in rw at (rw (le-ltb (length xs) (length xs) (omega arith)) refl)
