-- The part that was given last.
use Rattle.std.proofs.Common.{◌≡◌, ℕ, List, [], ◌∷◌, ◌++◌, length, get_or, length-append, refl, ap, sym, subst, ◌∙◌, arith}
use Rattle.example_picture.specs.Parts.{Part}
use Rattle.example_picture.specs.Pictures.{Picture, part_at, IsGiven}
use Rattle.golden_picture.specs.Sizes.{HasSize}

last_at : (xs : List Part) (x d : Part) → get_or (xs ++ x ∷ []) (length xs) d ≡ x
last_at [] x d = refl
last_at (y ∷ xs) x d = last_at xs x d

pub sized : (old new : Picture) (part : Part) (k rows columns channels : ℕ) → IsGiven old part new k → part.rows ≡ rows → part.columns ≡ columns → part.channels ≡ channels → HasSize new k rows columns channels
sized old new part k rows columns channels is tall wide deep =
    let more : Picture = record old { parts = old.parts ++ part ∷ [] } in
    let at : part_at more (length old.parts) ≡ part = last_at old.parts part _ in
    let one : HasSize more (length old.parts) rows columns channels = record {
      given = omega (arith, length-append old.parts (part ∷ []));
      tall = ap (λ (p : Part). p.rows) at ∙ tall;
      wide = ap (λ (p : Part). p.columns) at ∙ wide;
      deep = ap (λ (p : Part). p.channels) at ∙ deep;
    } in
    subst (λ (p : Picture). HasSize p k rows columns channels) (sym is.after) (subst (λ (n : ℕ). HasSize more n rows columns channels) (sym is.number) one)
