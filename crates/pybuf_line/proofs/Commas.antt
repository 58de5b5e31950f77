-- The parts between the commas outside quotes, after one more byte.
use Rattle.std.proofs.Common.{◌≡◌, ℕ, ◌+◌, ◌-◌, ◌<◌, ◌≤◌, Bool, true, false, not, cond, ◌==◌, ◌&&◌, List, [], ◌∷◌, ◌++◌, length, take, drop, get_or, refl, sym, ◌∙◌, ap, arith, tests}
use Rattle.std.specs.List.{onto_first}
use Rattle.std.proofs.lemmas.List.{drop_more}
use Rattle.pybuf_line.specs.Parts.{parts_from}
use Rattle.pybuf_line.proofs.Cuts.{onto_parts, byte_on, cut_on}

onto_some : (x : ℕ) (parts : List (List ℕ)) → (first : List ℕ) × (more : List (List ℕ)) × (onto_first x parts ≡ first ∷ more)
onto_some x [] = (x ∷ [], [], refl)
onto_some x (part ∷ parts) = (x ∷ part, parts, refl)

if_some : (a b : Bool) (x : ℕ) (ps qs rs : List (List ℕ)) →
    (first : List ℕ) × (more : List (List ℕ)) × (cond a (onto_first x ps) (cond b ([] ∷ qs) (onto_first x rs)) ≡ first ∷ more)
if_some true b x ps qs rs = onto_some x ps
if_some false true x ps qs rs = ([], qs, refl)
if_some false false x ps qs rs = onto_some x rs

-- There is always a first part.
pub some_part : (quoted : Bool) (text : List ℕ) → (first : List ℕ) × (more : List (List ℕ)) × (parts_from quoted text ≡ first ∷ more)
some_part quoted [] = ([], [], refl)
some_part quoted (b ∷ rest) =
    if_some (b == 39) (b == 44 && not quoted) b (parts_from (not quoted) rest) (parts_from quoted rest) (parts_from quoted rest)

pub nothing_begun : (text : List ℕ) → parts_from false text ≡ onto_parts [] [] (parts_from false text)
nothing_begun text = let s = some_part false text in s.2 ∙ ap (onto_parts [] []) (sym s.2)

pub quote_cuts : (b : ℕ) (quoted : Bool) (rest : List ℕ) → b ≡ 39 → parts_from quoted (b ∷ rest) ≡ onto_first b (parts_from (not quoted) rest)
quote_cuts b quoted rest e = grind (arith, tests)

comma_cuts : (b : ℕ) (quoted : Bool) (rest : List ℕ) → (b == 39) ≡ false → (b == 44 && not quoted) ≡ true →
    parts_from quoted (b ∷ rest) ≡ [] ∷ parts_from quoted rest
comma_cuts b quoted rest q c = grind (arith, tests)

pub other_cuts : (b : ℕ) (quoted : Bool) (rest : List ℕ) → (b == 39) ≡ false → (b == 44 && not quoted) ≡ false →
    parts_from quoted (b ∷ rest) ≡ onto_first b (parts_from quoted rest)
other_cuts b quoted rest q c = grind (arith, tests)

pub at_quote : (all done : List (List ℕ)) (text : List ℕ) (start i : ℕ) (quoted : Bool) → start ≤ i → i < length text →
    all ≡ onto_parts done (take (i - start) (drop start text)) (parts_from quoted (drop i text)) → get_or text i 0 ≡ 39 →
    all ≡ onto_parts done (take (i + 1 - start) (drop start text)) (parts_from (not quoted) (drop (i + 1) text))
at_quote all done text start i quoted within here h e =
    byte_on all done text start i (parts_from quoted (drop i text)) (parts_from (not quoted) (drop (i + 1) text)) within here h
    (ap (parts_from quoted) (drop_more text i 0 here) ∙ quote_cuts (get_or text i 0) quoted (drop (i + 1) text) e)

pub at_other : (all done : List (List ℕ)) (text : List ℕ) (start i : ℕ) (quoted : Bool) → start ≤ i → i < length text →
    all ≡ onto_parts done (take (i - start) (drop start text)) (parts_from quoted (drop i text)) →
    (get_or text i 0 == 39) ≡ false → (get_or text i 0 == 44 && not quoted) ≡ false →
    all ≡ onto_parts done (take (i + 1 - start) (drop start text)) (parts_from quoted (drop (i + 1) text))
at_other all done text start i quoted within here h q c =
    byte_on all done text start i (parts_from quoted (drop i text)) (parts_from quoted (drop (i + 1) text)) within here h
    (ap (parts_from quoted) (drop_more text i 0 here) ∙ other_cuts (get_or text i 0) quoted (drop (i + 1) text) q c)

pub at_comma : (all done : List (List ℕ)) (text : List ℕ) (start i : ℕ) (quoted : Bool) → i < length text →
    all ≡ onto_parts done (take (i - start) (drop start text)) (parts_from quoted (drop i text)) →
    (get_or text i 0 == 39) ≡ false → (get_or text i 0 == 44 && not quoted) ≡ true →
    all ≡ onto_parts (done ++ take (i - start) (drop start text) ∷ []) (take (i + 1 - (i + 1)) (drop (i + 1) text)) (parts_from quoted (drop (i + 1) text))
at_comma all done text start i quoted here h q c =
    let s = some_part quoted (drop (i + 1) text) in
    cut_on all done text start i (parts_from quoted (drop i text)) (parts_from quoted (drop (i + 1) text)) s.0 s.1 h
    (ap (parts_from quoted) (drop_more text i 0 here) ∙ comma_cuts (get_or text i 0) quoted (drop (i + 1) text) q c) s.2

pub same_cuts : (all d d' : List (List ℕ)) (text : List ℕ) (i s s' : ℕ) (q q' : Bool) → d' ≡ d → s' ≡ s → q' ≡ q →
    all ≡ onto_parts d (take (i - s) (drop s text)) (parts_from q (drop i text)) →
    all ≡ onto_parts d' (take (i - s') (drop s' text)) (parts_from q' (drop i text))
same_cuts all d d' text i s s' q q' e1 e2 e3 h = cc
