-- Bytes that are cut at their blanks, at most a number of times.
use Rattle.std.proofs.Common.{◌≡◌, refl, sym, ap, ◌∙◌, ℕ, zero, suc, ◌-◌, ◌<◌, ◌≤◌, List, [], ◌∷◌, ◌++◌, true, false, not, length, filter, take, drop, reverse, get_or, arith, ℤ, pos, negsuc}
use Rattle.std.specs.Prelude.{◌==◌, ◌<ℤ◌}
use Rattle.std.specs.List.{AllPass, slice_split, prefix_len, position_or_len}
use Rattle.std.proofs.lemmas.Bool.{false≢true}
use Rattle.std.proofs.lemmas.Int.{ints}
use Rattle.std.proofs.lemmas.List.{append-nil, append_assoc, take-append-drop, take_all, length-take, length-drop, length-reverse, get_or-reverse, reverse-append, reverse-reverse}
use Rattle.std.proofs.lemmas.List.Elements.{All-head, All-tail}
use Rattle.std.proofs.lemmas.List.Splits.{slice_split_at}
use Rattle.pybuf_letters.specs.Classes.{is_blank}
use Rattle.pybuf_letters.specs.Blanks.{runs, next_run, next_blank, after_runs, part_if_any, runs_up_to, blank_parts, blank_rparts}
use Rattle.pybuf_letters.specs.Laws.{IsRun, FirstStays, LastStays, EndsWithRest, BeginsWithRest, AreCutFromLeft, AreCutFromRight}
use Rattle.pybuf_letters.proofs.Runs.{kept, at-next_run, runs-blank, runs-next_run, runs-at_run}
use Rattle.pybuf_letters.proofs.RunLaws.{bare-all}
use Rattle.pybuf_letters.proofs.StripLaws.{first_kept}
use Rattle.pybuf_letters.proofs.GapLaws.{lead, lead-blank, run_is_run, behind-blank, bytes_of_some}
use Rattle.pybuf_letters.proofs.TurnedRuns.{turned, turned-append, length-turned, runs-reverse, turned-runs}

-- ---- runs of bytes that are put together

-- Blanks at the beginning end no run.
runs-behind_blanks : (gap bytes : List ℕ) → AllPass is_blank gap → runs (gap ++ bytes) ≡ runs bytes
runs-behind_blanks [] bytes blank = refl
runs-behind_blanks (b ∷ gap) bytes blank =
    runs-blank b (gap ++ bytes) (All-head (λ c. is_blank c ≡ true) b gap blank)
    ∙ runs-behind_blanks gap bytes (All-tail (λ c. is_blank c ≡ true) b gap blank)

-- a run in front of bytes that begin with a blank
runs-run_before : (run bytes : List ℕ) → IsRun run → 0 < length bytes → is_blank (get_or bytes 0 0) ≡ true → runs (run ++ bytes) ≡ run ∷ runs bytes
runs-run_before run [] is some blank = absurd (omega arith)
runs-run_before run (b ∷ rest) is some blank =
    ap (filter (λ run. not (length run == 0))) (slice_split_at is_blank run b rest (bare-all run is.bare) blank)
    ∙ (kept run (slice_split is_blank rest) is.some ∙ ap (λ (rs : List (List ℕ)). run ∷ rs) (sym (runs-blank b rest blank)))

-- ---- the next run

runs-cut : (bytes : List ℕ) → 0 < length (next_run bytes)
    → runs bytes ≡ take (position_or_len is_blank (next_run bytes)) (next_run bytes) ∷ runs (next_blank (next_run bytes))
runs-cut bytes some = sym (runs-next_run bytes) ∙ runs-at_run (next_run bytes) (at-next_run bytes) some

no_run : (bytes : List ℕ) → length (runs bytes) ≤ 0 → next_run bytes ≡ []
no_run bytes few = by_next (next_run bytes) refl
  where
    by_next : (next : List ℕ) → next_run bytes ≡ next → next_run bytes ≡ []
    by_next [] is = is
    by_next (b ∷ rest) is =
        let some : 0 < length (next_run bytes) = rw is (omega arith) in
        absurd (omega (arith, ap length (runs-cut bytes some)))

after_runs-all : (n : ℕ) (bytes : List ℕ) → length (runs bytes) ≤ n → after_runs n bytes ≡ []
after_runs-all zero bytes few = no_run bytes few
after_runs-all (suc n) bytes few = by_next (after_runs-all n) (next_run bytes) refl
  where
    by_next : ((fewer : List ℕ) → length (runs fewer) ≤ n → after_runs n fewer ≡ []) → (next : List ℕ) → next_run bytes ≡ next
        → after_runs n (next_blank (next_run bytes)) ≡ []
    by_next later [] none = ap (λ (r : List ℕ). after_runs n (next_blank r)) none ∙ later [] (omega arith)
    by_next later (b ∷ rest) is =
        let some : 0 < length (next_run bytes) = rw is (omega arith) in
        later (next_blank (next_run bytes)) (omega (arith, ap length (runs-cut bytes some)))

-- ---- the rest after n runs

record IsSplit (n : ℕ) (bytes : List ℕ) : Type 0 where
  front : List ℕ
  rest : List ℕ
  whole : front ++ rest ≡ bytes
  first : FirstStays is_blank rest
  cut : runs front ≡ take n (runs bytes)
  uncut : runs rest ≡ drop n (runs bytes)
  after : after_runs n bytes ≡ rest

-- Bytes that begin with a blank still do so if they are cut before another byte.
front_begins : (bytes front rest : List ℕ) → front ++ rest ≡ bytes → 0 < length bytes → is_blank (get_or bytes 0 0) ≡ true → FirstStays is_blank rest
    → (0 < length front) × (is_blank (get_or front 0 0) ≡ true)
front_begins bytes [] rest whole some blank first =
    let other : is_blank (get_or rest 0 0) ≡ false = first (omega (arith, ap length whole)) in
    absurd (false≢true (sym other ∙ (ap (λ (bs : List ℕ). is_blank (get_or bs 0 0)) whole ∙ blank)))
front_begins bytes (b ∷ front) rest whole some blank first = (omega arith, ap (λ (bs : List ℕ). is_blank (get_or bs 0 0)) whole ∙ blank)

more_split : (n : ℕ) (bytes : List ℕ) → 0 < length (next_run bytes) → n < length (runs (next_blank (next_run bytes))) → IsSplit n (next_blank (next_run bytes)) → IsSplit (suc n) bytes
more_split n bytes some more later =
    let next : List ℕ = next_run bytes in
    let tail : List ℕ = next_blank next in
    let run : List ℕ = take (position_or_len is_blank next) next in
    let there : 0 < length tail = bytes_of_some tail (omega arith) in
    let begins = front_begins tail later.front later.rest later.whole there (behind-blank next there) later.first in
    let cut : runs bytes ≡ run ∷ runs tail = runs-cut bytes some in
    record {
      front = lead bytes ++ (run ++ later.front);
      rest = later.rest;
      whole = append_assoc (lead bytes) (run ++ later.front) later.rest
          ∙ (ap (λ (bs : List ℕ). lead bytes ++ bs)
          (append_assoc run later.front later.rest ∙ (ap (λ (bs : List ℕ). run ++ bs) later.whole ∙ take-append-drop (position_or_len is_blank next) next))
          ∙ take-append-drop (prefix_len is_blank bytes) bytes);
      first = later.first;
      cut = runs-behind_blanks (lead bytes) (run ++ later.front) (lead-blank bytes)
          ∙ (runs-run_before run later.front (run_is_run next (at-next_run bytes) some) begins.0 begins.1
          ∙ (ap (λ (rs : List (List ℕ)). run ∷ rs) later.cut ∙ sym (ap (λ (rs : List (List ℕ)). take (suc n) rs) cut)));
      uncut = later.uncut ∙ sym (ap (λ (rs : List (List ℕ)). drop (suc n) rs) cut);
      after = later.after;
    }

split : (n : ℕ) (bytes : List ℕ) → n < length (runs bytes) → IsSplit n bytes
split zero bytes more = record {
  front = lead bytes;
  rest = next_run bytes;
  whole = take-append-drop (prefix_len is_blank bytes) bytes;
  first = first_kept is_blank bytes;
  cut = sym (ap runs (append-nil (lead bytes))) ∙ runs-behind_blanks (lead bytes) [] (lead-blank bytes);
  uncut = runs-next_run bytes;
  after = refl;
}
split (suc n) bytes more = by_next (split n) (next_run bytes) refl
  where
    by_next : ((other : List ℕ) → n < length (runs other) → IsSplit n other) → (next : List ℕ) → next_run bytes ≡ next → IsSplit (suc n) bytes
    by_next later [] none = absurd (omega (arith, ap length (sym (ap runs none) ∙ runs-next_run bytes)))
    by_next later (b ∷ rest) is =
        let some : 0 < length (next_run bytes) = rw is (omega arith) in
        let fewer : n < length (runs (next_blank (next_run bytes))) = omega (arith, ap length (runs-cut bytes some)) in
        more_split n bytes some fewer (later (next_blank (next_run bytes)) fewer)

-- ---- cuts from the left

all_runs : (n : ℕ) (bytes : List ℕ) → length (runs bytes) ≤ n → runs_up_to n bytes ≡ runs bytes
all_runs n bytes few =
    ap (λ (r : List ℕ). take n (runs bytes) ++ part_if_any r) (after_runs-all n bytes few)
    ∙ (append-nil (take n (runs bytes)) ∙ take_all n (runs bytes) few)

part_of_some : (bytes : List ℕ) → 0 < length bytes → part_if_any bytes ≡ bytes ∷ []
part_of_some [] some = absurd (omega arith)
part_of_some (b ∷ rest) some = refl

ends_with_rest : (n : ℕ) (bytes : List ℕ) → n < length (runs bytes) → EndsWithRest n bytes (runs_up_to n bytes)
ends_with_rest n bytes more =
    let s = split n bytes more in
    let left : 0 < length s.rest = bytes_of_some s.rest (omega (arith, ap length s.uncut, length-drop n (runs bytes))) in
    record {
      front = s.front;
      rest = s.rest;
      whole = s.whole;
      first = s.first;
      count = omega (arith, ap length s.cut, length-take n (runs bytes));
      same = ap (λ (rs : List (List ℕ)). rs ++ runs s.rest) s.cut
          ∙ (ap (λ (rs : List (List ℕ)). take n (runs bytes) ++ rs) s.uncut ∙ take-append-drop n (runs bytes));
      are = ap (λ (r : List ℕ). take n (runs bytes) ++ part_if_any r) s.after
          ∙ (ap (λ (rs : List (List ℕ)). rs ++ part_if_any s.rest) (sym s.cut) ∙ ap (λ (rs : List (List ℕ)). runs s.front ++ rs) (part_of_some s.rest left));
    }

pub cut_from_left : (n : ℕ) (bytes : List ℕ) → AreCutFromLeft n bytes (blank_parts (pos n) bytes)
cut_from_left n bytes = record { few = all_runs n bytes; many = ends_with_rest n bytes }

-- ---- cuts from the right

last_turned : (bytes : List ℕ) → FirstStays is_blank bytes → LastStays is_blank (reverse bytes)
last_turned bytes first some =
    let size : length (reverse bytes) ≡ length bytes = length-reverse bytes in
    let here : length bytes - 1 - (length (reverse bytes) - 1) ≡ 0 = omega arith in
    ap is_blank (get_or-reverse bytes (length (reverse bytes) - 1) 0 (omega arith) ∙ ap (λ n. get_or bytes n 0) here) ∙ first (omega arith)

as_many : (bytes : List ℕ) → length (runs (reverse bytes)) ≡ length (runs bytes)
as_many bytes = ap length (runs-reverse bytes) ∙ length-turned (runs bytes)

all_from_right : (n : ℕ) (bytes : List ℕ) → length (runs bytes) ≤ n → blank_rparts (pos n) bytes ≡ runs bytes
all_from_right n bytes few = ap turned (all_runs n (reverse bytes) (omega (arith, as_many bytes))) ∙ turned-runs bytes

begins_with_rest : (n : ℕ) (bytes : List ℕ) → n < length (runs bytes) → BeginsWithRest n bytes (blank_rparts (pos n) bytes)
begins_with_rest n bytes more =
    let e = ends_with_rest n (reverse bytes) (omega (arith, as_many bytes)) in
    record {
      rest = reverse e.rest;
      back = reverse e.front;
      whole = sym (reverse-append e.front e.rest) ∙ (ap reverse e.whole ∙ reverse-reverse bytes);
      last = last_turned e.rest e.first;
      count = as_many e.front ∙ e.count;
      same = ap (λ (rs : List (List ℕ)). rs ++ runs (reverse e.front)) (runs-reverse e.rest)
          ∙ (ap (λ (rs : List (List ℕ)). turned (runs e.rest) ++ rs) (runs-reverse e.front)
          ∙ (sym (turned-append (runs e.front) (runs e.rest)) ∙ (ap turned e.same ∙ turned-runs bytes)));
      are = ap turned e.are
          ∙ (turned-append (runs e.front) (e.rest ∷ []) ∙ ap (λ (rs : List (List ℕ)). reverse e.rest ∷ rs) (sym (runs-reverse e.front)));
    }

pub cut_from_right : (n : ℕ) (bytes : List ℕ) → AreCutFromRight n bytes (blank_rparts (pos n) bytes)
cut_from_right n bytes = record { few = all_from_right n bytes; many = begins_with_rest n bytes }

-- ---- cuts without a bound

pub all_from_either : (max : ℤ) (bytes : List ℕ) → max <ℤ pos 0 → (blank_parts max bytes ≡ runs bytes) × (blank_rparts max bytes ≡ runs bytes)
all_from_either (pos n) bytes negative = absurd (omega (arith, ints))
all_from_either (negsuc n) bytes negative = (refl, turned-runs bytes)
