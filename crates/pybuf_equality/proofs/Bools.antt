-- Tests that hold together.
use Rattle.std.proofs.Common.{◌≡◌, ℕ, Bool, true, false, sym, ◌∙◌, refl, ap, List, [], ◌∷◌, ◌++◌, length, arith}
use Rattle.std.specs.Prelude.{◌&&◌, ◌||◌, ◌==◌, bytes_eq}
use Rattle.std.specs.List.{list_all}

-- A list whose first element passes the test passes it if the others do.
pub tested_first : {X : Type 0} (p : X → Bool) (x : X) (xs rest : List X) (total : Bool) → xs ≡ x ∷ rest → p x ≡ true → list_all p xs ≡ total → list_all p rest ≡ total
tested_first p x xs rest total same passes all = ap (λ (t : Bool). t && list_all p rest) (sym passes) ∙ ap (list_all p) (sym same) ∙ all

pub either : (a b : Bool) → (a || b) ≡ true → (a ≡ true → ⊥) → b ≡ true
either true b p denied = absurd (denied refl)
either false b p denied = p

pub and_assoc : (a b c : Bool) → (a && (b && c)) ≡ ((a && b) && c)
and_assoc true b c = refl
and_assoc false b c = refl

pub alike : (a b : Bool) → (a ≡ true → b ≡ true) → (b ≡ true → a ≡ true) → a ≡ b
alike true true p q = refl
alike true false p q = sym (p refl)
alike false true p q = q refl
alike false false p q = refl

-- lists of bytes that are put end to end
pub bytes_both : (a b c d : List ℕ) → length a ≡ length c → bytes_eq (a ++ b) (c ++ d) ≡ (bytes_eq a c && bytes_eq b d)
bytes_both [] b [] d long = refl
bytes_both [] b (y ∷ c) d long = absurd (omega (arith, long))
bytes_both (x ∷ a) b [] d long = absurd (omega (arith, long))
bytes_both (x ∷ a) b (y ∷ c) d long =
    let shorter : length a ≡ length c = omega (arith, long) in
    ap (λ (t : Bool). (x == y) && t) (bytes_both a b c d shorter) ∙ and_assoc (x == y) (bytes_eq a c) (bytes_eq b d)
