-- Checks in a written order: the first that refuses decides.
use Rattle.std.specs.Prelude.{◌≡◌, refl, Bool, true, false, Result, Ok, Err}
use Rattle.pybuf_value.specs.declared.faults.Fault.{Fault}

infixl 10 ◌>>=◌
abbrev pub ◌>>=◌ : {A B : Type 0} → Result A Fault → (A → Result B Fault) → Result B Fault
(Ok x) >>= f = f x
(Err e) >>= f = Err e

-- refuses with the fault if the test holds
abbrev pub unless : Bool → Fault → Result Bool Fault
unless true f = Err f
unless false f = Ok true

-- a property holds of a result, unless it is a refusal
abbrev pub IfDone : {B : Type 0} → (B → Type 0) → Result B Fault → Type 0
IfDone P (Ok x) = P x
IfDone P (Err f) = Unit {0}

-- If each step of a chain of checks leads to a property, so does the chain. (This is a law of `>>=` that proofs about
-- commands cite. It stands here since no contract can speak of every `P`.)
pub done_bind : {A B : Type 0} (P : B → Type 0) (r : Result A Fault) (f : A → Result B Fault) → ((a : A) → r ≡ Ok a → IfDone P (f a)) → IfDone P (r >>= f)
done_bind P (Ok a) f after = after a refl
done_bind P (Err e) f after = tt
