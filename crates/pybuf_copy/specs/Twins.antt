-- What copies of compound values share with their sources.
use Rattle.std.specs.Prelude.{◌≡◌, ⊤, Option, None, Some, refl}

-- both options are none, or both are some and R holds of their parts
abbrev pub SameOption : {X : Type 0} → (X → X → Type 0) → Option X → Option X → Type 0
SameOption R None None = ⊤
SameOption R (Some x) (Some y) = R x y
SameOption R None (Some y) = ⊥
SameOption R (Some x) None = ⊥

-- if copies of the part are equal to it, so are copies of the option
pub exact_option : {X : Type 0} {R : X → X → Type 0} → ((x y : X) → R x y → y ≡ x) → (old twin : Option X) → SameOption R old twin → twin ≡ old
exact_option exact None None same = refl
exact_option exact (Some x) (Some y) same = λ i. Some (exact x y same i)
exact_option exact None (Some y) same = absurd same
exact_option exact (Some x) None same = absurd same
