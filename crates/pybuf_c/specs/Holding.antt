-- What a handle holds before a call and after it, and numbers as calls tell them.
use Rattle.std.specs.Prelude.{◌≡◌, ℕ, ℤ, Bool, Option, Some, None}
use Rattle.pybuf_crossing.specs.Words.{signed}

-- The handle holds something before and after the call, and `Says` relates the two.
abbrev pub BothHold : {X : Type 0} → (X → X → Type 0) → Option X → Option X → Type 0
BothHold Says (Some old) (Some new) = Says old new
BothHold Says (Some old) None = ⊥
BothHold Says None new = ⊥

-- The handle holds nothing, before and after the call.
abbrev pub NoneHold : {X : Type 0} → Option X → Option X → Type 0
NoneHold old new = (old ≡ None) × (new ≡ None)

-- there is a number, and it has this size and this sign
abbrev pub IsWord : Option ℤ → Bool → ℕ → Type 0
IsWord number negative magnitude = number ≡ Some (signed negative magnitude)
