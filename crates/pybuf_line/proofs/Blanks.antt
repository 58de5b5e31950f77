-- The words of a line, after one more byte.
use Rattle.std.proofs.Common.{◌≡◌, ◌≢◌, ℕ, ◌+◌, ◌-◌, ◌<◌, ◌≤◌, true, false, ◌==◌, List, [], ◌∷◌, ◌++◌, length, take, drop, get_or, refl, sym, ◌∙◌, ap, arith, tests}
use Rattle.std.proofs.lemmas.List.{drop_more}
use Rattle.std.proofs.lemmas.List.Splits.{slice_split-cons_yes, slice_split-cons_no}
use Rattle.pybuf_line.specs.Words.{words}
use Rattle.pybuf_line.proofs.Colons.{some_part}
use Rattle.pybuf_line.proofs.Cuts.{onto_parts, byte_on, cut_on}

pub nothing_begun : (line : List ℕ) → words line ≡ onto_parts [] [] (words line)
nothing_begun line = let s = some_part (λ b. b == 32) line in s.2 ∙ ap (onto_parts [] []) (sym s.2)

is_blank : (b : ℕ) → b ≡ 32 → (b == 32) ≡ true
is_blank b h = grind (arith, tests)

no_blank : (b : ℕ) → b ≢ 32 → (b == 32) ≡ false
no_blank b h = grind (arith, tests)

pub at_other : (all done : List (List ℕ)) (line : List ℕ) (start i : ℕ) → start ≤ i → i < length line →
    all ≡ onto_parts done (take (i - start) (drop start line)) (words (drop i line)) → get_or line i 0 ≢ 32 →
    all ≡ onto_parts done (take (i + 1 - start) (drop start line)) (words (drop (i + 1) line))
at_other all done line start i within here h other =
    byte_on all done line start i (words (drop i line)) (words (drop (i + 1) line)) within here h
    (ap words (drop_more line i 0 here) ∙ slice_split-cons_no (λ b. b == 32) (get_or line i 0) (drop (i + 1) line) (no_blank (get_or line i 0) other))

pub at_blank : (all done : List (List ℕ)) (line : List ℕ) (start i : ℕ) → i < length line →
    all ≡ onto_parts done (take (i - start) (drop start line)) (words (drop i line)) → get_or line i 0 ≡ 32 →
    all ≡ onto_parts (done ++ take (i - start) (drop start line) ∷ []) (take (i + 1 - (i + 1)) (drop (i + 1) line)) (words (drop (i + 1) line))
at_blank all done line start i here h blank =
    let s = some_part (λ b. b == 32) (drop (i + 1) line) in
    cut_on all done line start i (words (drop i line)) (words (drop (i + 1) line)) s.0 s.1 h
    (ap words (drop_more line i 0 here) ∙ slice_split-cons_yes (λ b. b == 32) (get_or line i 0) (drop (i + 1) line) (is_blank (get_or line i 0) blank)) s.2

pub same_words : (all d d' : List (List ℕ)) (line : List ℕ) (i s s' : ℕ) → d' ≡ d → s' ≡ s →
    all ≡ onto_parts d (take (i - s) (drop s line)) (words (drop i line)) →
    all ≡ onto_parts d' (take (i - s') (drop s' line)) (words (drop i line))
same_words all d d' line i s s' e1 e2 h = cc
