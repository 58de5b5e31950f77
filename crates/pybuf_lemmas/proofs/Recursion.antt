-- What holds of each element, read element by element.
use Rattle.std.proofs.Common.{◌+◌, List, [], ◌∷◌, ◌++◌, ℕ, ℤ, drop}
use Rattle.std.specs.List.{AllByRecursion}

pub left_by_recursion : {X : Type 0} (P : X → Type 0) (xs ys : List X) → AllByRecursion P (xs ++ ys) → AllByRecursion P xs
left_by_recursion P [] ys h = tt
left_by_recursion P (x ∷ xs) ys h = (h.0, left_by_recursion P xs ys h.1)

pub right_by_recursion : {X : Type 0} (P : X → Type 0) (xs ys : List X) → AllByRecursion P (xs ++ ys) → AllByRecursion P ys
right_by_recursion P [] ys h = h
right_by_recursion P (x ∷ xs) ys h = right_by_recursion P xs ys h.1

pub dims_after_first : (P : ℕ × ℤ × ℤ → Type 0) (dims : List (ℕ × ℤ × ℤ)) → AllByRecursion P dims → AllByRecursion P (drop 1 dims)
dims_after_first P [] all = tt
dims_after_first P (dim ∷ dims) all = all.1
