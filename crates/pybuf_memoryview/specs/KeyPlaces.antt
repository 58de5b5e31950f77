-- The place where the item starts that a key names.
use Rattle.std.specs.Prelude.{◌≡◌, ℕ, ◌<◌, length, slice_index, Result, Ok, Err, MatchResult}
use Rattle.pybuf_value.specs.declared.faults.Fault.{Fault}
use Rattle.pybuf_desc.specs.Layouts.{Layout}

-- the number names an item that is there, and this item starts at the place
pub record IsStartOf (layout : Layout) (number : Result ℕ Fault) (place : ℕ) : Type 0 where
  pub item : ℕ
  pub named : number ≡ Ok item
  pub there : item < length layout.starts
  pub starts : place ≡ slice_index layout.starts item

-- the start of the item of a number is given, or the refusal of the number
abbrev pub GivesStartOf : Layout → Result ℕ Fault → Result ℕ Fault → Type 0
GivesStartOf layout number result = MatchResult result (λ place. IsStartOf layout number place) (λ fault. number ≡ Err fault)
