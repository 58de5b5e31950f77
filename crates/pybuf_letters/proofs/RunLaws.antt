-- Laws of runs between blanks.
use Rattle.std.proofs.Common.{◌≡◌, refl, sym, ap, ◌∙◌, subst, ℕ, zero, suc, ◌+◌, ◌-◌, ◌<◌, ◌≤◌, List, [], ◌∷◌, ◌++◌, Bool, true, false, cond, not, length, take, drop, filter, arith}
use Rattle.std.specs.Prelude.{◌==◌}
use Rattle.std.specs.List.{All, concat, join_with_byte, list_any, slice_split, position_or_len, prefix_len}
use Rattle.std.proofs.lemmas.List.{append-nil, take-append-drop}
use Rattle.std.proofs.lemmas.List.Elements.{All-nil, All-cons, All-head, All-tail, filter-append}
use Rattle.std.proofs.lemmas.List.Splits.{slice_split_none, slice_split_at}
use Rattle.pybuf_lemmas.proofs.Booleans.{first_of_neither, second_of_neither}
use Rattle.pybuf_letters.specs.Classes.{is_blank}
use Rattle.pybuf_letters.specs.Blanks.{runs, next_run, next_blank, part_if_any, runs_up_to}
use Rattle.pybuf_letters.specs.Laws.{IsRun, LosesBlanksAlone}
use Rattle.pybuf_letters.proofs.Runs.{AtRun, kept, at-next_run, runs_up_to-next_run, runs_up_to-more, runs_up_to-nil, runs_up_to-zero}

-- ---- runs with a blank between each two

pub bare-all : (run : List ℕ) → list_any is_blank run ≡ false → All (λ b. is_blank b ≡ false) run
bare-all [] h = All-nil (λ b. is_blank b ≡ false)
bare-all (b ∷ rest) h =
    All-cons (λ b. is_blank b ≡ false) b rest (first_of_neither (is_blank b) (list_any is_blank rest) h) (bare-all rest (second_of_neither (is_blank b) (list_any is_blank rest) h))

pub runs-of_joined : (given : List (List ℕ)) → All IsRun given → runs (join_with_byte 32 given) ≡ given
runs-of_joined [] all = refl
runs-of_joined (run ∷ []) all =
    let is : IsRun run = All-head IsRun run [] all in
    ap (filter (λ run. not (length run == 0))) (slice_split_none is_blank run (bare-all run is.bare)) ∙ kept run [] is.some
runs-of_joined (run ∷ (next ∷ more)) all =
    let is : IsRun run = All-head IsRun run (next ∷ more) all in
    ap (filter (λ run. not (length run == 0))) (slice_split_at is_blank run 32 (join_with_byte 32 (next ∷ more)) (bare-all run is.bare) refl)
    ∙ (kept run (slice_split is_blank (join_with_byte 32 (next ∷ more))) is.some
    ∙ ap (λ (rs : List (List ℕ)). run ∷ rs) (runs-of_joined (next ∷ more) (All-tail IsRun run (next ∷ more) all)))

-- ---- which bytes are kept

solid-next_run : (bytes : List ℕ) → filter (λ b. not (is_blank b)) (next_run bytes) ≡ filter (λ b. not (is_blank b)) bytes
solid-next_run [] = refl
solid-next_run (b ∷ rest) = by_first (solid-next_run rest) (is_blank b) refl
  where
    one_more : 1 + prefix_len is_blank rest ≡ suc (prefix_len is_blank rest)
    one_more = omega arith

    by_first : filter (λ b. not (is_blank b)) (next_run rest) ≡ filter (λ b. not (is_blank b)) rest
        → (first : Bool) → is_blank b ≡ first
        → filter (λ b. not (is_blank b)) (drop (cond first (1 + prefix_len is_blank rest) 0) (b ∷ rest)) ≡ filter (λ b. not (is_blank b)) (b ∷ rest)
    by_first later true h =
        ap (λ n. filter (λ b. not (is_blank b)) (drop n (b ∷ rest))) one_more
        ∙ (later ∙ ap (λ (t : Bool). cond (not t) (b ∷ filter (λ b. not (is_blank b)) rest) (filter (λ b. not (is_blank b)) rest)) (sym h))
    by_first later false h = refl

concat-part_if_any : (bytes : List ℕ) → concat (part_if_any bytes) ≡ bytes
concat-part_if_any [] = refl
concat-part_if_any (b ∷ rest) = append-nil (b ∷ rest)

length-part_if_any : (bytes : List ℕ) → length (part_if_any bytes) ≤ 1
length-part_if_any [] = omega arith
length-part_if_any (b ∷ rest) = omega arith

pub loses_blanks_alone : (n : ℕ) (bytes : List ℕ) → LosesBlanksAlone n bytes
loses_blanks_alone zero bytes = record {
  kept = ap (filter (λ b. not (is_blank b))) (concat-part_if_any (next_run bytes)) ∙ solid-next_run bytes;
  count = length-part_if_any (next_run bytes);
}
loses_blanks_alone (suc n) bytes = by_next (loses_blanks_alone n) (next_run bytes) refl
  where
    by_next : ((other : List ℕ) → LosesBlanksAlone n other) → (next : List ℕ) → next_run bytes ≡ next → LosesBlanksAlone (suc n) bytes
    by_next later [] none =
        let nothing : runs_up_to (suc n) bytes ≡ [] = sym (runs_up_to-next_run (suc n) bytes) ∙ (ap (λ (r : List ℕ). runs_up_to (suc n) r) none ∙ runs_up_to-nil (suc n)) in
        record {
          kept = ap (λ (rs : List (List ℕ)). filter (λ b. not (is_blank b)) (concat rs)) nothing
              ∙ (ap (filter (λ b. not (is_blank b))) (sym none) ∙ solid-next_run bytes);
          count = omega (arith, ap length nothing);
        }
    by_next later (b ∷ rest) is =
        let some : 0 < length (next_run bytes) = rw is (omega arith) in
        let cut : runs_up_to (suc n) bytes ≡ take (position_or_len is_blank (next_run bytes)) (next_run bytes) ∷ runs_up_to n (next_blank (next_run bytes)) =
        sym (runs_up_to-next_run (suc n) bytes) ∙ runs_up_to-more n (next_run bytes) (at-next_run bytes) some in
        record {
          kept =
              ap (λ (rs : List (List ℕ)). filter (λ b. not (is_blank b)) (concat rs)) cut
              ∙ (filter-append (λ b. not (is_blank b)) (take (position_or_len is_blank (next_run bytes)) (next_run bytes)) (concat (runs_up_to n (next_blank (next_run bytes))))
              ∙ (ap (λ (bs : List ℕ). filter (λ b. not (is_blank b)) (take (position_or_len is_blank (next_run bytes)) (next_run bytes)) ++ bs) (later (next_blank (next_run bytes))).kept
              ∙ (sym (filter-append (λ b. not (is_blank b)) (take (position_or_len is_blank (next_run bytes)) (next_run bytes)) (next_blank (next_run bytes)))
              ∙ (ap (filter (λ b. not (is_blank b))) (take-append-drop (position_or_len is_blank (next_run bytes)) (next_run bytes)) ∙ solid-next_run bytes))));
          count = omega (arith, ap length cut, (later (next_blank (next_run bytes))).count);
        }
