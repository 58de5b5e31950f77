-- The parts of a text between its separators.
use Rattle.std.proofs.Common.{◌≡◌, ℕ, Bool, true, false, cond, ◌==◌, List, [], ◌∷◌, refl, ◌∙◌, ap}
use Rattle.std.specs.Prelude.{None}
use Rattle.std.specs.List.{slice_split, onto_first}
use Rattle.pybuf_line.specs.Parts.{parts_at}
use Rattle.pybuf_line.specs.Scalars.{handle_in}
use Rattle.pybuf_line.specs.Spellings.{slice_of, slice_in}

onto_some : (x : ℕ) (parts : List (List ℕ)) → (first : List ℕ) × (more : List (List ℕ)) × (onto_first x parts ≡ first ∷ more)
onto_some x [] = (x ∷ [], [], refl)
onto_some x (part ∷ parts) = (x ∷ part, parts, refl)

some_or_onto : (b : Bool) (x : ℕ) (parts : List (List ℕ)) →
    (first : List ℕ) × (more : List (List ℕ)) × (cond b ([] ∷ parts) (onto_first x parts) ≡ first ∷ more)
some_or_onto true x parts = ([], parts, refl)
some_or_onto false x parts = onto_some x parts

-- There is always a first part.
pub some_part : (p : ℕ → Bool) (xs : List ℕ) → (first : List ℕ) × (more : List (List ℕ)) × (slice_split p xs ≡ first ∷ more)
some_part p [] = ([], [], refl)
some_part p (x ∷ xs) = some_or_onto (p x) x (slice_split p xs)

-- Four or more parts aren't a slice.
pub too_many_parts : (text start bounds stop step third rest : List ℕ) → parts_at 58 text ≡ start ∷ parts_at 58 bounds →
    parts_at 58 bounds ≡ stop ∷ parts_at 58 step → parts_at 58 step ≡ third ∷ parts_at 58 rest → slice_in handle_in text ≡ None
too_many_parts text start bounds stop step third rest h1 h2 h3 =
    let s = some_part (λ b. b == 58) rest in
    let all : parts_at 58 text ≡ start ∷ stop ∷ third ∷ s.0 ∷ s.1 =
    h1 ∙ ap (λ parts. start ∷ parts) (h2 ∙ ap (λ parts. stop ∷ parts) (h3 ∙ ap (λ parts. third ∷ parts) s.2)) in
    ap (slice_of handle_in) all
