-- Ranges of the first dimension of a view. The blocks of a range make a view of their own.
use Rattle.std.specs.Prelude.{ℕ, ◌≤◌, List, [], ◌∷◌}
use Rattle.std.specs.declared.ops.Range.{Range}

-- The view has a first dimension, and the range lies in it.
abbrev pub LiesInFirst : Range ℕ → List ℕ → Type 0
LiesInFirst range [] = ⊥
LiesInFirst range (n ∷ shape) = (range.start ≤ range.end) × (range.end ≤ n)
