-- Laws of lines.
use Rattle.std.proofs.Common.{◌≡◌, refl, ap, ◌∙◌, ℕ, ◌<◌, List, [], ◌∷◌, ◌++◌, Bool, true, false, cond, length, arith}
use Rattle.std.specs.List.{All, concat, onto_first}
use Rattle.std.proofs.lemmas.List.Elements.{All-nil, All-cons, All-tail}
use Rattle.pybuf_letters.specs.Lines.{ends_line, whole_lines}
use Rattle.pybuf_letters.specs.Laws.{LinesAreTheBytes}

concat-onto_first : (b : ℕ) (lines : List (List ℕ)) → concat (onto_first b lines) ≡ b ∷ concat lines
concat-onto_first b [] = refl
concat-onto_first b (line ∷ more) = refl

some-onto_first : (b : ℕ) (lines : List (List ℕ)) → All (λ line. 0 < length line) lines → All (λ line. 0 < length line) (onto_first b lines)
some-onto_first b [] all = All-cons (λ line. 0 < length line) (b ∷ []) [] (omega arith) all
some-onto_first b (line ∷ more) all = All-cons (λ line. 0 < length line) (b ∷ line) more (omega arith) (All-tail (λ line. 0 < length line) line more all)

pub joined : (bytes : List ℕ) → concat (whole_lines bytes) ≡ bytes
joined [] = refl
joined (b ∷ rest) = by_end (joined rest) (ends_line b rest)
  where
    by_end : concat (whole_lines rest) ≡ rest → (test : Bool) → concat (cond test ((b ∷ []) ∷ whole_lines rest) (onto_first b (whole_lines rest))) ≡ b ∷ rest
    by_end later true = ap (λ (bs : List ℕ). b ∷ bs) later
    by_end later false = concat-onto_first b (whole_lines rest) ∙ ap (λ (bs : List ℕ). b ∷ bs) later

pub some : (bytes : List ℕ) → All (λ line. 0 < length line) (whole_lines bytes)
some [] = All-nil (λ line. 0 < length line)
some (b ∷ rest) = by_end (some rest) (ends_line b rest)
  where
    by_end : All (λ line. 0 < length line) (whole_lines rest) → (test : Bool) → All (λ line. 0 < length line) (cond test ((b ∷ []) ∷ whole_lines rest) (onto_first b (whole_lines rest)))
    by_end later true = All-cons (λ line. 0 < length line) (b ∷ []) (whole_lines rest) (omega arith) later
    by_end later false = some-onto_first b (whole_lines rest) later
