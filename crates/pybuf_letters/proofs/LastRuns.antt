-- The same lemmas from the right. What is left is read from its end.
use Rattle.std.proofs.Common.{◌≡◌, refl, sym, ap, ◌∙◌, subst, ℕ, suc, ◌+◌, ◌-◌, ◌<◌, ◌≤◌, List, [], ◌∷◌, ◌++◌, Bool, not, length, take, drop, map, reverse, arith, ℤ, pos}
use Rattle.std.specs.Prelude.{◌<ℤ◌}
use Rattle.std.specs.List.{position_or_len, suffix_len}
use Rattle.std.proofs.lemmas.List.{append-nil, append_assoc, take-append-drop, take_at, drop_at, length-drop, length-reverse, reverse-append, reverse-reverse, nil_from_length}
use Rattle.std.proofs.lemmas.List.Sums.{suffix_len-le-length}
use Rattle.pybuf_letters.specs.Classes.{is_blank}
use Rattle.pybuf_letters.specs.Strips.{stripped_left, stripped_right}
use Rattle.pybuf_letters.specs.Blanks.{next_run, next_blank, part_if_any, runs_up_to, blank_parts_from_last}
use Rattle.pybuf_letters.proofs.Runs.{AtRun, at-next_run, runs_up_to-next_run, runs_up_to-more, runs_up_to-nil, runs_up_to-zero, without_bound}

-- ---- the first bytes and the last bytes, in reverse

last_reversed : (k : ℕ) (bytes : List ℕ) → k ≤ length bytes → length (reverse (drop (length bytes - k) bytes)) ≡ k
last_reversed k bytes inside = length-reverse (drop (length bytes - k) bytes) ∙ omega (arith, length-drop (length bytes - k) bytes)

turned : (k : ℕ) (bytes : List ℕ) → reverse bytes ≡ reverse (drop (length bytes - k) bytes) ++ reverse (take (length bytes - k) bytes)
turned k bytes = ap reverse (sym (take-append-drop (length bytes - k) bytes)) ∙ reverse-append (take (length bytes - k) bytes) (drop (length bytes - k) bytes)

-- all but the last k bytes
pub reverse-take : (k : ℕ) (bytes : List ℕ) → k ≤ length bytes → reverse (take (length bytes - k) bytes) ≡ drop k (reverse bytes)
reverse-take k bytes inside =
    sym (ap (λ (r : List ℕ). drop k r) (turned k bytes) ∙ drop_at (reverse (drop (length bytes - k) bytes)) (reverse (take (length bytes - k) bytes)) k (last_reversed k bytes inside))

-- the last k bytes
pub reverse-drop : (k : ℕ) (bytes : List ℕ) → k ≤ length bytes → reverse (drop (length bytes - k) bytes) ≡ take k (reverse bytes)
reverse-drop k bytes inside =
    sym (ap (λ (r : List ℕ). take k r) (turned k bytes) ∙ take_at (reverse (drop (length bytes - k) bytes)) (reverse (take (length bytes - k) bytes)) k (last_reversed k bytes inside))

pub reverse-stripped_right : (p : ℕ → Bool) (bytes : List ℕ) → reverse (stripped_right p bytes) ≡ stripped_left p (reverse bytes)
reverse-stripped_right p bytes = reverse-take (suffix_len p bytes) bytes (suffix_len-le-length p bytes)

-- ---- a loop over the runs from the right: its parts and what is cut from the rest are the whole

pub right_starts : (cuts : ℕ) (bytes rest : List ℕ) (parts : List (List ℕ)) → parts ≡ [] → rest ≡ stripped_right is_blank bytes
    → (parts ++ map reverse (runs_up_to (cuts - 0) (reverse rest)) ≡ map reverse (runs_up_to cuts (reverse bytes))) × AtRun (reverse rest)
right_starts cuts bytes rest parts none is =
    let all : cuts - 0 ≡ cuts = omega arith in
    let turned_rest : reverse rest ≡ next_run (reverse bytes) = ap reverse is ∙ reverse-stripped_right is_blank bytes in (
      ap (λ (ps : List (List ℕ)). ps ++ map reverse (runs_up_to (cuts - 0) (reverse rest))) none
          ∙ ap (λ (rs : List (List ℕ)). map reverse rs)
          (ap (λ n. runs_up_to n (reverse rest)) all ∙ (ap (λ (r : List ℕ). runs_up_to cuts r) turned_rest ∙ runs_up_to-next_run cuts (reverse bytes))),
      subst (λ (r : List ℕ). AtRun r) (sym turned_rest) (at-next_run (reverse bytes)),
    )

pub right_goes_on : (cuts i : ℕ) (rest next : List ℕ) (parts more whole : List (List ℕ)) → i < cuts → 0 < length rest
    → (parts ++ map reverse (runs_up_to (cuts - i) (reverse rest)) ≡ whole) × AtRun (reverse rest)
    → more ≡ parts ++ drop (length rest - suffix_len (λ b. not (is_blank b)) rest) rest ∷ []
    → next ≡ stripped_right is_blank (take (length rest - suffix_len (λ b. not (is_blank b)) rest) rest)
    → (more ++ map reverse (runs_up_to (cuts - (i + 1)) (reverse next)) ≡ whole) × AtRun (reverse next)
right_goes_on cuts i rest next parts more whole below some so_far pushed is =
    let size : length (reverse rest) ≡ length rest = length-reverse rest in
    let inside : suffix_len (λ b. not (is_blank b)) rest ≤ length rest = suffix_len-le-length (λ b. not (is_blank b)) rest in
    let one_more : cuts - i ≡ suc (cuts - (i + 1)) = omega arith in
    let step : runs_up_to (cuts - i) (reverse rest) ≡ take (position_or_len is_blank (reverse rest)) (reverse rest) ∷ runs_up_to (cuts - (i + 1)) (next_blank (reverse rest)) =
    ap (λ k. runs_up_to k (reverse rest)) one_more ∙ runs_up_to-more (cuts - (i + 1)) (reverse rest) so_far.1 (omega arith) in
    let run : reverse (take (position_or_len is_blank (reverse rest)) (reverse rest)) ≡ drop (length rest - suffix_len (λ b. not (is_blank b)) rest) rest =
    ap reverse (sym (reverse-drop (suffix_len (λ b. not (is_blank b)) rest) rest inside)) ∙ reverse-reverse (drop (length rest - suffix_len (λ b. not (is_blank b)) rest) rest) in
    let turned_next : reverse next ≡ next_run (next_blank (reverse rest)) =
    ap reverse is ∙ (reverse-stripped_right is_blank (take (length rest - suffix_len (λ b. not (is_blank b)) rest) rest)
    ∙ ap next_run (reverse-take (suffix_len (λ b. not (is_blank b)) rest) rest inside)) in
    let same : runs_up_to (cuts - (i + 1)) (reverse next) ≡ runs_up_to (cuts - (i + 1)) (next_blank (reverse rest)) =
    ap (λ (r : List ℕ). runs_up_to (cuts - (i + 1)) r) turned_next ∙ runs_up_to-next_run (cuts - (i + 1)) (next_blank (reverse rest)) in (
      ap (λ (ps : List (List ℕ)). ps ++ map reverse (runs_up_to (cuts - (i + 1)) (reverse next))) pushed
          ∙ (append_assoc parts (drop (length rest - suffix_len (λ b. not (is_blank b)) rest) rest ∷ []) (map reverse (runs_up_to (cuts - (i + 1)) (reverse next)))
          ∙ (ap (λ (rs : List (List ℕ)). parts ++ (drop (length rest - suffix_len (λ b. not (is_blank b)) rest) rest ∷ map reverse rs)) same
          ∙ (ap (λ (r : List ℕ). parts ++ (r ∷ map reverse (runs_up_to (cuts - (i + 1)) (next_blank (reverse rest))))) (sym run)
          ∙ (ap (λ (rs : List (List ℕ)). parts ++ map reverse rs) (sym step) ∙ so_far.0)))),
      subst (λ (r : List ℕ). AtRun r) (sym turned_next) (at-next_run (next_blank (reverse rest))),
    )

-- No byte is left.
pub right_is_done : (n : ℕ) (rest : List ℕ) (parts whole : List (List ℕ)) → length rest ≡ 0 → parts ++ map reverse (runs_up_to n (reverse rest)) ≡ whole → parts ≡ whole
right_is_done n rest parts whole none so_far =
    sym (append-nil parts)
    ∙ (ap (λ (rs : List (List ℕ)). parts ++ map reverse rs) (sym (runs_up_to-nil n) ∙ ap (λ (r : List ℕ). runs_up_to n (reverse r)) (sym (nil_from_length rest none))) ∙ so_far)

turned_part : (rest : List ℕ) → map reverse (part_if_any (reverse rest)) ≡ part_if_any rest
turned_part rest = by_turned (reverse rest) (reverse-reverse rest)
  where
    by_turned : (other : List ℕ) → reverse other ≡ rest → map reverse (part_if_any other) ≡ part_if_any rest
    by_turned [] is = ap part_if_any is
    by_turned (b ∷ more) is = shown (reverse (b ∷ more)) some ∙ ap part_if_any is
      where
        some : 0 < length (reverse (b ∷ more))
        some = omega (arith, length-reverse (b ∷ more))

        shown : (bytes : List ℕ) → 0 < length bytes → bytes ∷ [] ≡ part_if_any bytes
        shown [] none = absurd (omega arith)
        shown (c ∷ bytes) h = refl

-- All cuts are made.
pub right_ends : (cuts i : ℕ) (rest : List ℕ) (parts whole : List (List ℕ)) → cuts ≤ i → (parts ++ map reverse (runs_up_to (cuts - i) (reverse rest)) ≡ whole) × AtRun (reverse rest) → parts ++ part_if_any rest ≡ whole
right_ends cuts i rest parts whole past so_far =
    let none : cuts - i ≡ 0 = omega arith in
    ap (λ (ps : List (List ℕ)). parts ++ ps) (sym (turned_part rest))
    ∙ (ap (λ (rs : List (List ℕ)). parts ++ map reverse rs) (sym (runs_up_to-zero (reverse rest) so_far.1) ∙ ap (λ k. runs_up_to k (reverse rest)) (sym none)) ∙ so_far.0)

pub without_bound_reversed : (max : ℤ) (bytes : List ℕ) → max <ℤ pos 0 → map reverse (runs_up_to (length bytes) (reverse bytes)) ≡ blank_parts_from_last max bytes
without_bound_reversed max bytes negative =
    ap (λ n. map reverse (runs_up_to n (reverse bytes))) (sym (length-reverse bytes))
    ∙ ap (λ (rs : List (List ℕ)). map reverse rs) (without_bound max (reverse bytes) negative)
