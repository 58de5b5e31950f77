-- A list beside itself.
use Rattle.std.proofs.Common.{◌≡◌, List, [], ◌∷◌, refl, subst, sym}
use Rattle.std.specs.List.{AllZip}

pub each_itself : {X : Type 0} (xs : List X) → AllZip (λ (old twin : X). twin ≡ old) xs xs
each_itself [] = tt
each_itself (x ∷ xs) = (refl, each_itself xs)

pub each_equal : {X : Type 0} (xs ys : List X) → ys ≡ xs → AllZip (λ (old twin : X). twin ≡ old) xs ys
each_equal {X} xs ys e = subst (λ (zs : List X). AllZip (λ (old twin : X). twin ≡ old) xs zs) (sym e) (each_itself xs)
