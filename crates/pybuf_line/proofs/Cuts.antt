-- A text that is cut into parts byte by byte. There are the parts that are done, the bytes of the part that is
-- begun, and the parts of the rest.
use Rattle.std.proofs.Common.{◌≡◌, ℕ, ◌+◌, ◌-◌, ◌<◌, ◌≤◌, List, [], ◌∷◌, ◌++◌, length, take, drop, get_or, map, Bor, refl, sym, ◌∙◌, ap, arith}
use Rattle.std.specs.List.{onto_first}
use Rattle.std.proofs.lemmas.List.{append_assoc, append-nil, map-append}
use Rattle.pybuf_lemmas.proofs.Lists.{part_grows_by_one}

-- the parts that are done, with the bytes of the part that is begun, in front of the parts of the rest
abbrev pub onto_parts : List (List ℕ) → List ℕ → List (List ℕ) → List (List ℕ)
onto_parts done begun [] = done ++ begun ∷ []
onto_parts done begun (part ∷ more) = done ++ (begun ++ part) ∷ more

onto_byte : (done : List (List ℕ)) (begun : List ℕ) (b : ℕ) (parts : List (List ℕ)) →
    onto_parts done begun (onto_first b parts) ≡ onto_parts done (begun ++ b ∷ []) parts
onto_byte done begun b [] = refl
onto_byte done begun b (part ∷ more) = ap (λ first. done ++ first ∷ more) (sym (append_assoc begun (b ∷ []) part))

-- The byte goes to the part that is begun.
pub byte_on : (all done : List (List ℕ)) (text : List ℕ) (start i : ℕ) (parts rest : List (List ℕ)) → start ≤ i → i < length text →
    all ≡ onto_parts done (take (i - start) (drop start text)) parts → parts ≡ onto_first (get_or text i 0) rest →
    all ≡ onto_parts done (take (i + 1 - start) (drop start text)) rest
byte_on all done text start i parts rest within here h cuts =
    h
    ∙ (ap (onto_parts done (take (i - start) (drop start text))) cuts
    ∙ (onto_byte done (take (i - start) (drop start text)) (get_or text i 0) rest
    ∙ ap (λ l. onto_parts done l rest) (sym (part_grows_by_one text start i within here))))

onto_next : (done : List (List ℕ)) (begun : List ℕ) (parts : List (List ℕ)) (first : List ℕ) (more : List (List ℕ)) → parts ≡ first ∷ more →
    onto_parts done begun ([] ∷ parts) ≡ onto_parts (done ++ begun ∷ []) [] parts
onto_next done begun parts first more e =
    ap (λ b. done ++ b ∷ parts) (append-nil begun)
    ∙ (ap (λ p. done ++ begun ∷ p) e ∙ (sym (append_assoc done (begun ∷ []) (first ∷ more)) ∙ ap (onto_parts (done ++ begun ∷ []) []) (sym e)))

-- The byte ends the part that is begun.
pub cut_on : (all done : List (List ℕ)) (text : List ℕ) (start i : ℕ) (parts rest : List (List ℕ)) (first : List ℕ) (more : List (List ℕ)) →
    all ≡ onto_parts done (take (i - start) (drop start text)) parts → parts ≡ [] ∷ rest → rest ≡ first ∷ more →
    all ≡ onto_parts (done ++ take (i - start) (drop start text) ∷ []) (take (i + 1 - (i + 1)) (drop (i + 1) text)) rest
cut_on all done text start i parts rest first more h cuts some =
    let begun = take (i - start) (drop start text) in
    let none : i + 1 - (i + 1) ≡ 0 = omega arith in
    h
    ∙ (ap (onto_parts done begun) cuts
    ∙ (onto_next done begun rest first more some ∙ ap (λ k. onto_parts (done ++ begun ∷ []) (take k (drop (i + 1) text)) rest) (sym none)))

-- the bytes of parts that are lent
abbrev pub texts : List (Bor (List ℕ)) → List (List ℕ)
texts parts = map (λ part. part.now) parts

pub one_text_more : (parts new : List (Bor (List ℕ))) (part : Bor (List ℕ)) → new ≡ parts ++ part ∷ [] → texts new ≡ texts parts ++ part.now ∷ []
one_text_more parts new part e = ap texts e ∙ map-append (λ p. p.now) parts (part ∷ [])
