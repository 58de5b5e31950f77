-- The runs of bytes in reverse.
use Rattle.std.proofs.Common.{◌≡◌, refl, sym, ap, ◌∙◌, ℕ, ◌<◌, List, [], ◌∷◌, ◌++◌, Bool, true, false, cond, not, length, map, reverse, filter, arith}
use Rattle.std.specs.Prelude.{◌==◌}
use Rattle.std.specs.List.{slice_split, onto_first}
use Rattle.std.proofs.lemmas.List.{append-nil, map-append, length-map, length-reverse, reverse-append, reverse-reverse}
use Rattle.std.proofs.lemmas.List.Elements.{filter-append}
use Rattle.std.proofs.lemmas.List.Splits.{length-slice_split}
use Rattle.pybuf_letters.specs.Classes.{is_blank}
use Rattle.pybuf_letters.specs.Blanks.{runs}

-- Each part is reversed, and so is their order.
abbrev pub turned : List (List ℕ) → List (List ℕ)
turned parts = reverse (map reverse parts)

pub turned-append : (ps qs : List (List ℕ)) → turned (ps ++ qs) ≡ turned qs ++ turned ps
turned-append ps qs = ap reverse (map-append reverse ps qs) ∙ reverse-append (map reverse ps) (map reverse qs)

turned-cons : (part : List ℕ) (more : List (List ℕ)) → turned (part ∷ more) ≡ turned more ++ reverse part ∷ []
turned-cons part more = reverse-append (reverse part ∷ []) (map reverse more)

pub length-turned : (parts : List (List ℕ)) → length (turned parts) ≡ length parts
length-turned parts = length-reverse (map reverse parts) ∙ length-map parts reverse

-- ---- one more byte at the end

-- the parts after a byte is put behind the last one
abbrev onto_last : ℕ → List (List ℕ) → List (List ℕ)
onto_last b [] = (b ∷ []) ∷ []
onto_last b (part ∷ []) = (part ++ b ∷ []) ∷ []
onto_last b (part ∷ (next ∷ more)) = part ∷ onto_last b (next ∷ more)

onto_last-push : (b : ℕ) (ps : List (List ℕ)) (part : List ℕ) → onto_last b (ps ++ part ∷ []) ≡ ps ++ (part ++ b ∷ []) ∷ []
onto_last-push b [] part = refl
onto_last-push b (q ∷ []) part = refl
onto_last-push b (q ∷ (r ∷ ps)) part = ap (λ (rs : List (List ℕ)). q ∷ rs) (onto_last-push b (r ∷ ps) part)

both_ends : (x b : ℕ) (ps : List (List ℕ)) (of_x of_b : Bool) → 0 < length ps
    → cond of_x ([] ∷ cond of_b (ps ++ [] ∷ []) (onto_last b ps)) (onto_first x (cond of_b (ps ++ [] ∷ []) (onto_last b ps)))
    ≡ cond of_b (cond of_x ([] ∷ ps) (onto_first x ps) ++ [] ∷ []) (onto_last b (cond of_x ([] ∷ ps) (onto_first x ps)))
both_ends x b [] of_x of_b some = absurd (omega arith)
both_ends x b (part ∷ more) true true some = refl
both_ends x b (part ∷ more) true false some = refl
both_ends x b (part ∷ more) false true some = refl
both_ends x b (part ∷ []) false false some = refl
both_ends x b (part ∷ (next ∷ more)) false false some = refl

split-push : (p : ℕ → Bool) (xs : List ℕ) (b : ℕ) → slice_split p (xs ++ b ∷ []) ≡ cond (p b) (slice_split p xs ++ [] ∷ []) (onto_last b (slice_split p xs))
split-push p [] b = refl
split-push p (x ∷ xs) b =
    ap (λ (ps : List (List ℕ)). cond (p x) ([] ∷ ps) (onto_first x ps)) (split-push p xs b)
    ∙ both_ends x b (slice_split p xs) (p x) (p b) (omega (arith, length-slice_split p xs))

-- ---- all bytes

turned-split : (p : ℕ → Bool) (xs : List ℕ) → slice_split p (reverse xs) ≡ turned (slice_split p xs)
turned-split p [] = refl
turned-split p (x ∷ xs) =
    ap (slice_split p) (reverse-append (x ∷ []) xs)
    ∙ (split-push p (reverse xs) x
    ∙ (ap (λ (ps : List (List ℕ)). cond (p x) (ps ++ [] ∷ []) (onto_last x ps)) (turned-split p xs)
    ∙ by_test (p x) (slice_split p xs) (omega (arith, length-slice_split p xs))))
  where
    by_test : (t : Bool) (ps : List (List ℕ)) → 0 < length ps → cond t (turned ps ++ [] ∷ []) (onto_last x (turned ps)) ≡ turned (cond t ([] ∷ ps) (onto_first x ps))
    by_test t [] some = absurd (omega arith)
    by_test true (part ∷ more) some = sym (turned-cons [] (part ∷ more))
    by_test false (part ∷ more) some =
        ap (onto_last x) (turned-cons part more)
        ∙ (onto_last-push x (turned more) (reverse part)
        ∙ (ap (λ (r : List ℕ). turned more ++ r ∷ []) (sym (reverse-append (x ∷ []) part)) ∙ sym (turned-cons (x ∷ part) more)))

filter-reverse : (t : List ℕ → Bool) (ps : List (List ℕ)) → filter t (reverse ps) ≡ reverse (filter t ps)
filter-reverse t [] = refl
filter-reverse t (part ∷ more) =
    ap (filter t) (reverse-append (part ∷ []) more)
    ∙ (filter-append t (reverse more) (part ∷ [])
    ∙ (ap (λ (ps : List (List ℕ)). ps ++ filter t (part ∷ [])) (filter-reverse t more) ∙ by_test (t part)))
  where
    by_test : (b : Bool) → reverse (filter t more) ++ cond b (part ∷ []) [] ≡ reverse (cond b (part ∷ filter t more) (filter t more))
    by_test true = sym (reverse-append (part ∷ []) (filter t more))
    by_test false = append-nil (reverse (filter t more))

filter-turned_parts : (ps : List (List ℕ)) → filter (λ run. not (length run == 0)) (map reverse ps) ≡ map reverse (filter (λ run. not (length run == 0)) ps)
filter-turned_parts [] = refl
filter-turned_parts (part ∷ more) =
    ap (λ n. cond (not (n == 0)) (reverse part ∷ filter (λ run. not (length run == 0)) (map reverse more)) (filter (λ run. not (length run == 0)) (map reverse more))) (length-reverse part)
    ∙ (ap (λ (ps : List (List ℕ)). cond (not (length part == 0)) (reverse part ∷ ps) ps) (filter-turned_parts more) ∙ by_test (not (length part == 0)))
  where
    by_test : (b : Bool) → cond b (reverse part ∷ map reverse (filter (λ run. not (length run == 0)) more)) (map reverse (filter (λ run. not (length run == 0)) more))
        ≡ map reverse (cond b (part ∷ filter (λ run. not (length run == 0)) more) (filter (λ run. not (length run == 0)) more))
    by_test true = refl
    by_test false = refl

pub runs-reverse : (bytes : List ℕ) → runs (reverse bytes) ≡ turned (runs bytes)
runs-reverse bytes =
    ap (filter (λ run. not (length run == 0))) (turned-split is_blank bytes)
    ∙ (filter-reverse (λ run. not (length run == 0)) (map reverse (slice_split is_blank bytes))
    ∙ ap reverse (filter-turned_parts (slice_split is_blank bytes)))

pub turned-runs : (bytes : List ℕ) → turned (runs (reverse bytes)) ≡ runs bytes
turned-runs bytes = sym (runs-reverse (reverse bytes)) ∙ ap runs (reverse-reverse bytes)
