-- What the answer of a call on a descriptor keeps of it, where one is made.
use Rattle.std.specs.Prelude.{◌≡◌, ℕ, Result}
use Rattle.pybuf_value.specs.Halting.{given_by, refusal_of}
use Rattle.pybuf_value.specs.Refusing.{IfDone}
use Rattle.pybuf_value.specs.declared.faults.Fault.{Fault}
use Rattle.pybuf_value.specs.declared.faults.Outcome.{Outcome}
use Rattle.pybuf_desc.specs.Descriptor.{Descriptor}
use Rattle.pybuf_desc.specs.Layouts.{Layout, LiesInside}
use Rattle.pybuf_desc.specs.Valid.{IsValid}

-- the call is refused exactly as a check is
abbrev pub RefusedAs : {A B : Type 0} → Result A Fault → Outcome B → Type 0
RefusedAs check answer = refusal_of (given_by answer) ≡ refusal_of check

-- from each start and in each room where the old descriptor is valid, the new one is
abbrev pub StaysValid : Descriptor → Outcome Descriptor → Type 0
StaysValid old answer = IfDone (λ made. (start room : ℕ) → IsValid old start room → IsValid made start room) (given_by answer)

-- in each room where the old one is valid from its start, the new one is from its own
abbrev pub StaysValidAt : Descriptor → ℕ → Outcome (Descriptor × ℕ) → Type 0
StaysValidAt old start answer = IfDone (λ made. (room : ℕ) → IsValid old start room → IsValid made.0 made.1 room) (given_by answer)

-- in each room in which the old layout lies, the new one does
abbrev pub StaysInside : Layout → Outcome Layout → Type 0
StaysInside old answer = IfDone (λ made. (room : ℕ) → LiesInside room old → LiesInside room made) (given_by answer)
