-- Lists in which an element was set or to which some were added.
use Rattle.std.proofs.Common.{◌≡◌, ℕ, zero, suc, List, [], ◌∷◌, ◌++◌, length, set, ap, refl, ◌≢◌}
use Rattle.std.specs.Prelude.{Some, slice_get}

pub slice_get-push : {X : Type 0} (xs : List X) (x : X) → slice_get (xs ++ x ∷ []) (length xs) ≡ Some x
slice_get-push [] x = refl
slice_get-push (y ∷ ys) x = slice_get-push ys x

-- The other elements are found as before.
pub slice_get-set_other : {X : Type 0} (xs : List X) (i j : ℕ) (y : X) → i ≢ j → slice_get (set xs i y) j ≡ slice_get xs j
slice_get-set_other [] i j y other = refl
slice_get-set_other (z ∷ zs) zero zero y other = absurd (other refl)
slice_get-set_other (z ∷ zs) zero (suc j) y other = refl
slice_get-set_other (z ∷ zs) (suc i) zero y other = refl
slice_get-set_other (z ∷ zs) (suc i) (suc j) y other = slice_get-set_other zs i j y (λ same. other (ap suc same))
