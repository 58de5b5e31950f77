-- Bytes that are cut at their blanks, after one more run, and what is left of them from the right.
use Rattle.std.proofs.Common.{◌≡◌, refl, sym, ap, ◌∙◌, subst, ℕ, zero, suc, ◌+◌, ◌-◌, ◌<◌, ◌≤◌, List, [], ◌∷◌, ◌++◌, Bool, true, false, cond, not, length, take, drop, map, reverse, get_or, filter, ⊎_elim, arith, ℤ, pos, negsuc}
use Rattle.std.proofs.lemmas.Int.{ints}
use Rattle.std.specs.Prelude.{◌==◌, ◌<ℤ◌}
use Rattle.std.specs.List.{slice_split, prefix_len, position_or_len, suffix_len, before_first, after_first, All}
use Rattle.std.proofs.lemmas.List.{take_all, drop_all, drop_more, length-drop, length-take, append_assoc, append-nil, nil_from_length}
use Rattle.std.proofs.lemmas.List.Sums.{prefix_len-le-length, prefix_len_stops, prefix_len-drop_no, prefix_len-drop_all, fails_before_first, passes_at_first}
use Rattle.std.proofs.lemmas.List.Splits.{slice_split-cons_yes, slice_split_none, slice_split_first}
use Rattle.std.proofs.lemmas.Bool.{cases_lt, false≢true}
use Rattle.std.proofs.lemmas.Bool.Decides.{nat_tests}
use Rattle.pybuf_letters.specs.Classes.{is_blank}
use Rattle.pybuf_letters.specs.Blanks.{runs, next_run, next_blank, after_runs, part_if_any, runs_up_to, blank_parts}

-- The bytes begin with a run, if there are any.
pub record AtRun (bytes : List ℕ) : Type 0 where
  pub stays : next_run bytes ≡ bytes

-- ---- the next run

-- A blank in front of other bytes ends no run.
pub runs-blank : (b : ℕ) (rest : List ℕ) → is_blank b ≡ true → runs (b ∷ rest) ≡ runs rest
runs-blank b rest h = ap (filter (λ run. not (length run == 0))) (slice_split-cons_yes is_blank b rest h)

pub runs-next_run : (bytes : List ℕ) → runs (next_run bytes) ≡ runs bytes
runs-next_run [] = refl
runs-next_run (b ∷ rest) = by_first (runs-next_run rest) (is_blank b) refl
  where
    one_more : 1 + prefix_len is_blank rest ≡ suc (prefix_len is_blank rest)
    one_more = omega arith

    by_first : runs (next_run rest) ≡ runs rest → (first : Bool) → is_blank b ≡ first → runs (drop (cond first (1 + prefix_len is_blank rest) 0) (b ∷ rest)) ≡ runs (b ∷ rest)
    by_first later true h = ap (λ n. runs (drop n (b ∷ rest))) one_more ∙ (later ∙ sym (runs-blank b rest h))
    by_first later false h = refl

pub at-next_run : (bytes : List ℕ) → AtRun (next_run bytes)
at-next_run bytes = record { stays = ap (λ n. drop n (next_run bytes)) none }
  where
    none : prefix_len is_blank (next_run bytes) ≡ 0
    none = ⊎_elim
        (λ below. prefix_len-drop_no is_blank bytes (prefix_len is_blank bytes) 0 below (prefix_len_stops is_blank bytes 0 below))
        (λ past. prefix_len-drop_all is_blank bytes (prefix_len is_blank bytes) past)
        (cases_lt (prefix_len is_blank bytes) (length bytes))

-- ---- one run

first_stays : (bytes : List ℕ) → AtRun bytes → 0 < length bytes → is_blank (get_or bytes 0 0) ≡ false
first_stays bytes at some =
    let same : length bytes - prefix_len is_blank bytes ≡ length bytes = sym (length-drop (prefix_len is_blank bytes) bytes) ∙ ap length at.stays in
    let none : prefix_len is_blank bytes ≡ 0 = omega (arith, prefix_len-le-length is_blank bytes) in
    rw none at (prefix_len_stops is_blank bytes 0 (omega arith))

pub run_is_some : (bytes : List ℕ) → AtRun bytes → 0 < length bytes → 0 < position_or_len is_blank bytes
run_is_some bytes at some = ⊎_elim
    (λ here. here)
    (λ none.
    let zero_is : position_or_len is_blank bytes ≡ 0 = omega arith in
    let blank : is_blank (get_or bytes 0 0) ≡ true = rw zero_is at (passes_at_first is_blank bytes 0 (omega arith)) in
    absurd (false≢true (sym (first_stays bytes at some) ∙ blank)))
    (cases_lt 0 (position_or_len is_blank bytes))

pub kept : (run : List ℕ) (more : List (List ℕ)) → 0 < length run → filter (λ run. not (length run == 0)) (run ∷ more) ≡ run ∷ filter (λ run. not (length run == 0)) more
kept run more some =
    let test : not (length run == 0) ≡ true = grind (arith, nat_tests) in
    ap (λ (t : Bool). cond t (run ∷ filter (λ run. not (length run == 0)) more) (filter (λ run. not (length run == 0)) more)) test

pub runs-at_run : (bytes : List ℕ) → AtRun bytes → 0 < length bytes → runs bytes ≡ take (position_or_len is_blank bytes) bytes ∷ runs (next_blank bytes)
runs-at_run bytes at some = ⊎_elim ends goes_on (cases_lt (position_or_len is_blank bytes) (length bytes))
  where
    ends : position_or_len is_blank bytes < length bytes → runs bytes ≡ take (position_or_len is_blank bytes) bytes ∷ runs (next_blank bytes)
    ends below =
        let cut : slice_split is_blank bytes ≡ before_first is_blank bytes ∷ slice_split is_blank (after_first is_blank bytes) = slice_split_first is_blank bytes 0 below in
        let size : 0 < length (before_first is_blank bytes) = omega (arith, length-take (position_or_len is_blank bytes) bytes, run_is_some bytes at some) in
        let after : next_blank bytes ≡ get_or bytes (position_or_len is_blank bytes) 0 ∷ after_first is_blank bytes = drop_more bytes (position_or_len is_blank bytes) 0 below in
        let rest : runs (next_blank bytes) ≡ runs (after_first is_blank bytes) = ap runs after ∙ runs-blank (get_or bytes (position_or_len is_blank bytes) 0) (after_first is_blank bytes) (passes_at_first is_blank bytes 0 below) in
        ap (filter (λ run. not (length run == 0))) cut ∙ (kept (before_first is_blank bytes) (slice_split is_blank (after_first is_blank bytes)) size ∙ ap (λ more. before_first is_blank bytes ∷ more) (sym rest))

    goes_on : length bytes ≤ position_or_len is_blank bytes → runs bytes ≡ take (position_or_len is_blank bytes) bytes ∷ runs (next_blank bytes)
    goes_on past =
        let whole : slice_split is_blank bytes ≡ bytes ∷ [] = slice_split_none is_blank bytes (λ k d below. fails_before_first is_blank bytes k d (omega arith)) in
        let run : take (position_or_len is_blank bytes) bytes ≡ bytes = take_all (position_or_len is_blank bytes) bytes past in
        let nothing : next_blank bytes ≡ [] = drop_all (position_or_len is_blank bytes) bytes past in
        ap (filter (λ run. not (length run == 0))) whole ∙ (kept bytes [] some ∙ (ap (λ (r : List ℕ). r ∷ []) (sym run) ∙ ap (λ (r : List ℕ). take (position_or_len is_blank bytes) bytes ∷ runs r) (sym nothing)))

-- ---- n runs, and the rest

after_runs-next_run : (n : ℕ) (bytes : List ℕ) → after_runs n (next_run bytes) ≡ after_runs n bytes
after_runs-next_run zero bytes = (at-next_run bytes).stays
after_runs-next_run (suc n) bytes = ap (λ (r : List ℕ). after_runs n (next_blank r)) (at-next_run bytes).stays

pub runs_up_to-next_run : (n : ℕ) (bytes : List ℕ) → runs_up_to n (next_run bytes) ≡ runs_up_to n bytes
runs_up_to-next_run n bytes =
    ap (λ (rs : List (List ℕ)). take n rs ++ part_if_any (after_runs n (next_run bytes))) (runs-next_run bytes)
    ∙ ap (λ (r : List ℕ). take n (runs bytes) ++ part_if_any r) (after_runs-next_run n bytes)

pub runs_up_to-more : (n : ℕ) (bytes : List ℕ) → AtRun bytes → 0 < length bytes → runs_up_to (suc n) bytes ≡ take (position_or_len is_blank bytes) bytes ∷ runs_up_to n (next_blank bytes)
runs_up_to-more n bytes at some =
    ap (λ (rs : List (List ℕ)). take (suc n) rs ++ part_if_any (after_runs (suc n) bytes)) (runs-at_run bytes at some)
    ∙ ap (λ (r : List ℕ). take (position_or_len is_blank bytes) bytes ∷ (take n (runs (next_blank bytes)) ++ part_if_any (after_runs n (next_blank r)))) at.stays

after_runs-nil : (n : ℕ) → after_runs n [] ≡ []
after_runs-nil zero = refl
after_runs-nil (suc n) = after_runs-nil n

pub runs_up_to-nil : (n : ℕ) → runs_up_to n [] ≡ []
runs_up_to-nil zero = refl
runs_up_to-nil (suc n) = ap part_if_any (after_runs-nil n)

pub runs_up_to-zero : (bytes : List ℕ) → AtRun bytes → runs_up_to 0 bytes ≡ part_if_any bytes
runs_up_to-zero bytes at = ap part_if_any at.stays

-- There are no more runs than bytes.
pub runs_up_to-enough : (n : ℕ) (bytes : List ℕ) → length bytes ≤ n → runs_up_to n bytes ≡ runs bytes
runs_up_to-enough zero [] enough = refl
runs_up_to-enough zero (b ∷ rest) enough = absurd (omega arith)
runs_up_to-enough (suc n) bytes enough = by_next (runs_up_to-enough n) (next_run bytes) refl
  where
    by_next : ((fewer : List ℕ) → length fewer ≤ n → runs_up_to n fewer ≡ runs fewer) → (next : List ℕ) → next_run bytes ≡ next → runs_up_to (suc n) bytes ≡ runs bytes
    by_next later [] none = sym (runs_up_to-next_run (suc n) bytes) ∙ (ap (λ (r : List ℕ). runs_up_to (suc n) r) none ∙ (runs_up_to-nil (suc n) ∙ (ap runs (sym none) ∙ runs-next_run bytes)))
    by_next later (b ∷ rest) is =
        let some : 0 < length (next_run bytes) = rw is (omega arith) in
        let at : AtRun (next_run bytes) = at-next_run bytes in
        let shorter : length (next_blank (next_run bytes)) ≤ n =
        omega (arith, length-drop (position_or_len is_blank (next_run bytes)) (next_run bytes), length-drop (prefix_len is_blank bytes) bytes, run_is_some (next_run bytes) at some) in
        sym (runs_up_to-next_run (suc n) bytes)
        ∙ (runs_up_to-more n (next_run bytes) at some
        ∙ (ap (λ (more : List (List ℕ)). take (position_or_len is_blank (next_run bytes)) (next_run bytes) ∷ more) (later (next_blank (next_run bytes)) shorter)
        ∙ (sym (runs-at_run (next_run bytes) at some) ∙ runs-next_run bytes)))

-- ---- a loop over the runs from the left: its parts and what is cut from the rest are the whole

pub left_starts : (cuts : ℕ) (bytes rest : List ℕ) (parts : List (List ℕ)) → parts ≡ [] → rest ≡ next_run bytes → (parts ++ runs_up_to (cuts - 0) rest ≡ runs_up_to cuts bytes) × AtRun rest
left_starts cuts bytes rest parts none is =
    let all : cuts - 0 ≡ cuts = omega arith in (
      ap (λ (ps : List (List ℕ)). ps ++ runs_up_to (cuts - 0) rest) none ∙ (ap (λ n. runs_up_to n rest) all ∙ (ap (λ (r : List ℕ). runs_up_to cuts r) is ∙ runs_up_to-next_run cuts bytes)),
      subst (λ (r : List ℕ). AtRun r) (sym is) (at-next_run bytes),
    )

pub left_goes_on : (cuts i : ℕ) (rest next : List ℕ) (parts more whole : List (List ℕ)) → i < cuts → 0 < length rest → (parts ++ runs_up_to (cuts - i) rest ≡ whole) × AtRun rest
    → more ≡ parts ++ take (position_or_len is_blank rest) rest ∷ [] → next ≡ next_run (next_blank rest) → (more ++ runs_up_to (cuts - (i + 1)) next ≡ whole) × AtRun next
left_goes_on cuts i rest next parts more whole below some so_far pushed is =
    let one_more : cuts - i ≡ suc (cuts - (i + 1)) = omega arith in
    let step : runs_up_to (cuts - i) rest ≡ take (position_or_len is_blank rest) rest ∷ runs_up_to (cuts - (i + 1)) (next_blank rest) =
    ap (λ k. runs_up_to k rest) one_more ∙ runs_up_to-more (cuts - (i + 1)) rest so_far.1 some in
    let same : runs_up_to (cuts - (i + 1)) next ≡ runs_up_to (cuts - (i + 1)) (next_blank rest) =
    ap (λ (r : List ℕ). runs_up_to (cuts - (i + 1)) r) is ∙ runs_up_to-next_run (cuts - (i + 1)) (next_blank rest) in (
      ap (λ (ps : List (List ℕ)). ps ++ runs_up_to (cuts - (i + 1)) next) pushed
          ∙ (append_assoc parts (take (position_or_len is_blank rest) rest ∷ []) (runs_up_to (cuts - (i + 1)) next)
          ∙ (ap (λ (ps : List (List ℕ)). parts ++ (take (position_or_len is_blank rest) rest ∷ ps)) same
          ∙ (ap (λ (ps : List (List ℕ)). parts ++ ps) (sym step) ∙ so_far.0))),
      subst (λ (r : List ℕ). AtRun r) (sym is) (at-next_run (next_blank rest)),
    )

-- No byte is left.
pub left_is_done : (n : ℕ) (rest : List ℕ) (parts whole : List (List ℕ)) → length rest ≡ 0 → parts ++ runs_up_to n rest ≡ whole → parts ≡ whole
left_is_done n rest parts whole none so_far =
    sym (append-nil parts) ∙ (ap (λ (ps : List (List ℕ)). parts ++ ps) (sym (runs_up_to-nil n) ∙ ap (λ (r : List ℕ). runs_up_to n r) (sym (nil_from_length rest none))) ∙ so_far)

-- All cuts are made.
pub left_ends : (cuts i : ℕ) (rest : List ℕ) (parts whole : List (List ℕ)) → cuts ≤ i → (parts ++ runs_up_to (cuts - i) rest ≡ whole) × AtRun rest → parts ++ part_if_any rest ≡ whole
left_ends cuts i rest parts whole past so_far =
    let none : cuts - i ≡ 0 = omega arith in
    ap (λ (ps : List (List ℕ)). parts ++ ps) (sym (runs_up_to-zero rest so_far.1) ∙ ap (λ k. runs_up_to k rest) (sym none)) ∙ so_far.0

pub without_bound : (max : ℤ) (bytes : List ℕ) → max <ℤ pos 0 → runs_up_to (length bytes) bytes ≡ blank_parts max bytes
without_bound (pos n) bytes negative = absurd (omega (arith, ints))
without_bound (negsuc n) bytes negative = runs_up_to-enough (length bytes) bytes (omega arith)
