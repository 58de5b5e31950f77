-- What is there or is not.
use Rattle.std.proofs.Common.{◌≡◌, Bool, true, false, cond, Option, Some, subst}

pub found_by : {X : Type 0} (p : X → Bool) (x : X) (b : Bool) (rest : Option X) (y : X) → p x ≡ b → (rest ≡ Some y → p y ≡ true) → cond b (Some x) rest ≡ Some y → p y ≡ true
found_by p x true rest y is after found = let same : x ≡ y = cc in subst (λ z. p z ≡ true) same is
found_by p x false rest y is after found = after found
