-- One value that is read as bytes, or any of a tuple of such values.
use Rattle.std.specs.Prelude.{◌≡◌, ◌⊎◌, ℕ, ℤ, Bool, true, false, List, [], ◌∷◌, Option, None, Some, Result, Ok, Err, if◌then◌else◌}
use Rattle.std.specs.Borrow.{Bor}
use Rattle.pybuf_value.specs.declared.faults.Fault.{Fault}
use Rattle.pybuf_value.specs.declared.halt.Halt.{Halt}
use Rattle.pybuf_value.specs.declared.halt.Halt.TheVariants as halt
use Rattle.pybuf_value.specs.declared.snaps.Snap.{Snap}
use Rattle.pybuf_value.specs.declared.values.Scalar.{Scalar}
use Rattle.pybuf_value.specs.declared.values.Value.{Value}
use Rattle.pybuf_value.specs.declared.values.Value.TheVariants as value
use Rattle.pybuf_value.specs.Refusing.{◌>>=◌}
use Rattle.pybuf_value.specs.Snaps.{bytes_in}
use Rattle.pybuf_search.specs.Ends.{begins_with, ends_with}
use Rattle.pybuf_search.specs.Bounds.{between_bounds}

-- whether one of some values satisfies a test; the first value that does, or that is refused, decides
abbrev pub any_of : (List ℕ → Bool) → List (ℕ × Snap) → List Scalar → Result Bool Fault
any_of test pairs [] = Ok false
any_of test pairs (part ∷ parts) = do
  bytes ← bytes_in pairs (value.One part)
  if test bytes then Ok true else any_of test pairs parts

abbrev pub single_or_any_of : (List ℕ → Bool) → List (ℕ × Snap) → Value → Result Bool Fault
single_or_any_of test pairs (value.Tuple parts) = any_of test pairs parts
single_or_any_of test pairs v = do
  bytes ← bytes_in pairs v
  Ok (test bytes)

-- a closure that is lent bytes answers what the test says
abbrev pub IsTested : (Bor (List ℕ) → Bool → Type 0) → (List ℕ → Bool) → Type 0
IsTested post test = (bytes : Bor (List ℕ)) (answer : Bool) → post bytes answer → answer ≡ test bytes.now

-- A result of values that are tested in order, up to the first that is refused or for which the test answers yes. The
-- bytes of the first value are given, or its refusal. `answers` says what the test may answer for bytes, and `Further`
-- says what the result of the values behind it is.
abbrev pub IsAnyFrom : (List ℕ → Bool → Type 0) → Result (List ℕ) Fault → (Result Bool Fault → Type 0) → Result Bool Fault → Type 0
IsAnyFrom answers (Err f) Further result = result ≡ Err f
IsAnyFrom answers (Ok bytes) Further result = (answers bytes true × (result ≡ Ok true)) ⊎ (answers bytes false × Further result)

abbrev pub IsAnyOf : (List ℕ → Bool → Type 0) → List (ℕ × Snap) → List Scalar → Result Bool Fault → Type 0
IsAnyOf answers pairs [] result = result ≡ Ok false
IsAnyOf answers pairs (part ∷ parts) result =
    IsAnyFrom answers (bytes_in pairs (value.One part)) (IsAnyOf answers pairs parts) result

-- a result of one test of bytes: what the test may answer for them, or their refusal, whatever the test may answer
abbrev pub IsTestOf : (List ℕ → Bool → Type 0) → Result (List ℕ) Fault → Result Bool Fault → Type 0
IsTestOf answers (Err f) result = result ≡ Err f
IsTestOf answers (Ok bytes) result = (answer : Bool) × answers bytes answer × (result ≡ Ok answer)

-- a result of testing one value, or the parts of a tuple in order
abbrev pub IsSingleOrAnyOf : (List ℕ → Bool → Type 0) → List (ℕ × Snap) → Value → Result Bool Fault → Type 0
IsSingleOrAnyOf answers pairs (value.Tuple parts) result = IsAnyOf answers pairs parts result
IsSingleOrAnyOf answers pairs v result = IsTestOf answers (bytes_in pairs v) result

-- a property holds of a result or of the refusal in its place; if memory runs out, nothing is said
abbrev pub IfGiven : {X : Type 0} → (Result X Fault → Type 0) → Result X Halt → Type 0
IfGiven P (Ok x) = P (Ok x)
IfGiven P (Err (halt.Refused f)) = P (Err f)
IfGiven P (Err halt.NoMemory) = Unit {0}

-- whether bytes between two bounds pass the test with an affix, or with one of a tuple of them; false if the start
-- passes the end
abbrev pub test_in : (List ℕ → List ℕ → Bool) → List (ℕ × Snap) → Value → Option (List ℕ) → Result Bool Fault
test_in test pairs affix None = Ok false
test_in test pairs affix (Some part) = single_or_any_of (test part) pairs affix

abbrev pub startswith_of : List (ℕ × Snap) → Value → Option ℤ → Option ℤ → List ℕ → Result Bool Fault
startswith_of pairs affix start end bytes = test_in begins_with pairs affix (between_bounds start end bytes)

abbrev pub endswith_of : List (ℕ × Snap) → Value → Option ℤ → Option ℤ → List ℕ → Result Bool Fault
endswith_of pairs affix start end bytes = test_in ends_with pairs affix (between_bounds start end bytes)
