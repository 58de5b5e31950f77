-- If one test may give an answer, so may another.
use Rattle.std.proofs.Common.{inl, inr, ℕ, Bool, true, false, List, [], ◌∷◌, Result, Ok, Err}
use Rattle.std.specs.Result.{IfOk}
use Rattle.pybuf_value.specs.declared.faults.Fault.{Fault}
use Rattle.pybuf_value.specs.declared.faults.Outcome.{Outcome}
use Rattle.pybuf_value.specs.declared.snaps.Snap.{Snap}
use Rattle.pybuf_value.specs.declared.values.Scalar.{Scalar}
use Rattle.pybuf_value.specs.declared.values.Value.{Value}
use Rattle.pybuf_value.specs.declared.values.Value.TheVariants as value
use Rattle.pybuf_value.specs.Snaps.{bytes_in}
use Rattle.pybuf_search.specs.Affixes.{IsAnyFrom, IsAnyOf, IsTestOf, IsSingleOrAnyOf}

module _ (A B : List ℕ → Bool → Type 0) (more : (bytes : List ℕ) (answer : Bool) → A bytes answer → B bytes answer) where
  any_from : (bytes : Result (List ℕ) Fault) (F G : Result Bool Fault → Type 0) (result : Result Bool Fault)
      → (F result → G result) → IsAnyFrom A bytes F result → IsAnyFrom B bytes G result
  any_from (Err f) F G result further is = is
  any_from (Ok bytes) F G result further (inl is) = inl (more bytes true is.0, is.1)
  any_from (Ok bytes) F G result further (inr is) = inr (more bytes false is.0, further is.1)

  any_more : (pairs : List (ℕ × Snap)) (parts : List Scalar) (result : Result Bool Fault)
      → IsAnyOf A pairs parts result → IsAnyOf B pairs parts result
  any_more pairs [] result is = is
  any_more pairs (part ∷ parts) result is =
      any_from (bytes_in pairs (value.One part)) (IsAnyOf A pairs parts) (IsAnyOf B pairs parts) result (any_more pairs parts result) is

  test_more : (bytes : Result (List ℕ) Fault) (result : Result Bool Fault) → IsTestOf A bytes result → IsTestOf B bytes result
  test_more (Err f) result is = is
  test_more (Ok bytes) result (answer, says, same) = (answer, more bytes answer says, same)

  single_more : (pairs : List (ℕ × Snap)) (v : Value) (result : Result Bool Fault)
      → IsSingleOrAnyOf A pairs v result → IsSingleOrAnyOf B pairs v result
  single_more pairs (value.Tuple parts) result is = any_more pairs parts result is
  single_more pairs v result is = test_more (bytes_in pairs v) result is

-- the same for a value, with the test after what holds of the value
pub as_another : (A B : List ℕ → Bool → Type 0) (pairs : List (ℕ × Snap)) (v : Value) (result : Result Bool Fault)
    → IsSingleOrAnyOf A pairs v result → ((bytes : List ℕ) (answer : Bool) → A bytes answer → B bytes answer) → IsSingleOrAnyOf B pairs v result
as_another A B pairs v result is more = single_more A B more pairs v result is

-- what follows for each outcome
pub each_outcome : {E : Type 0} (P Q : Outcome Bool → Type 0) (result : Result (Outcome Bool) E)
    → IfOk result P → ((outcome : Outcome Bool) → P outcome → Q outcome) → IfOk result Q
each_outcome P Q (Ok outcome) holds more = more outcome holds
each_outcome P Q (Err e) holds more = tt
