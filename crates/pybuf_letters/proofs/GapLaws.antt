-- Bytes are gaps and runs in turn.
use Rattle.std.proofs.Common.{◌≡◌, refl, sym, ap, ◌∙◌, subst, ℕ, zero, suc, ◌+◌, ◌<◌, ◌≤◌, List, [], ◌∷◌, ◌++◌, Bool, true, false, cond, length, take, get_or, arith}
use Rattle.std.specs.List.{All, AllPass, prefix_len, position_or_len}
use Rattle.std.proofs.lemmas.List.{take-append-drop, length-take, length-drop, get_or-take, get_or-drop}
use Rattle.std.proofs.lemmas.List.Elements.{All-nil, All-cons}
use Rattle.std.proofs.lemmas.List.Folds.{list_any_none}
use Rattle.std.proofs.lemmas.List.Sums.{prefix_len_passes, fails_before_first, passes_at_first}
use Rattle.pybuf_letters.specs.Classes.{is_blank}
use Rattle.pybuf_letters.specs.Blanks.{runs, next_run, next_blank}
use Rattle.pybuf_letters.specs.Laws.{IsRun, in_turn, AreRunsOf}
use Rattle.pybuf_letters.proofs.Runs.{AtRun, at-next_run, run_is_some, runs-next_run, runs-at_run}

-- the blanks that bytes begin with
abbrev pub lead : List ℕ → List ℕ
lead bytes = take (prefix_len is_blank bytes) bytes

pub lead-blank : (bytes : List ℕ) → AllPass is_blank (lead bytes)
lead-blank bytes k d below =
    let inside : k < prefix_len is_blank bytes = omega (arith, length-take (prefix_len is_blank bytes) bytes) in
    ap is_blank (get_or-take (prefix_len is_blank bytes) bytes k d inside) ∙ prefix_len_passes is_blank bytes k d inside

-- There are some blanks if the first byte is one.
pub lead-some : (bytes : List ℕ) → 0 < length bytes → is_blank (get_or bytes 0 0) ≡ true → 0 < length (lead bytes)
lead-some [] some blank = absurd (omega arith)
lead-some (b ∷ rest) some blank =
    let one : prefix_len is_blank (b ∷ rest) ≡ 1 + prefix_len is_blank rest = ap (λ (t : Bool). cond t (1 + prefix_len is_blank rest) 0) blank in
    omega (arith, length-take (prefix_len is_blank (b ∷ rest)) (b ∷ rest))

-- The bytes up to the first blank are a run.
pub run_is_run : (bytes : List ℕ) → AtRun bytes → 0 < length bytes → IsRun (take (position_or_len is_blank bytes) bytes)
run_is_run bytes at some = record {
  some = omega (arith, length-take (position_or_len is_blank bytes) bytes, run_is_some bytes at some);
  bare = list_any_none is_blank (take (position_or_len is_blank bytes) bytes) solid;
}
  where
    solid : All (λ b. is_blank b ≡ false) (take (position_or_len is_blank bytes) bytes)
    solid k d below =
        let inside : k < position_or_len is_blank bytes = omega (arith, length-take (position_or_len is_blank bytes) bytes) in
        ap is_blank (get_or-take (position_or_len is_blank bytes) bytes k d inside) ∙ fails_before_first is_blank bytes k d inside

-- What stands behind a run begins with a blank.
pub behind-blank : (bytes : List ℕ) → 0 < length (next_blank bytes) → is_blank (get_or (next_blank bytes) 0 0) ≡ true
behind-blank bytes some =
    let here : position_or_len is_blank bytes + 0 ≡ position_or_len is_blank bytes = omega arith in
    ap is_blank (get_or-drop (position_or_len is_blank bytes) bytes 0 0 ∙ ap (λ n. get_or bytes n 0) here)
    ∙ passes_at_first is_blank bytes 0 (omega (arith, length-drop (position_or_len is_blank bytes) bytes))

pub bytes_of_some : (bytes : List ℕ) → 0 < length (runs bytes) → 0 < length bytes
bytes_of_some [] some = absurd (omega arith)
bytes_of_some (b ∷ rest) some = omega arith

-- The bytes are the blanks that they begin with, and then runs with a gap behind each.
record IsLaid (bytes : List ℕ) (given : List (List ℕ)) : Type 0 where
  gaps : List (List ℕ)
  count : length gaps ≡ length given
  whole : in_turn (lead bytes ∷ gaps) given ≡ bytes
  blank : All (λ gap. AllPass is_blank gap) gaps
  solid : All IsRun given
  between : (k : ℕ) → k + 1 < length given → 0 < length (get_or gaps k [])

-- The bytes have no run.
none_laid : (bytes : List ℕ) → next_run bytes ≡ [] → IsLaid bytes []
none_laid bytes none = record {
  gaps = [];
  count = refl;
  whole = ap (λ (bs : List ℕ). lead bytes ++ bs) (sym none) ∙ take-append-drop (prefix_len is_blank bytes) bytes;
  blank = All-nil (λ gap. AllPass is_blank gap);
  solid = All-nil IsRun;
  between = λ k below. absurd (omega arith);
}

-- There is a run in front of the others.
more_laid : (bytes : List ℕ) → 0 < length (next_run bytes) → IsLaid (next_blank (next_run bytes)) (runs (next_blank (next_run bytes)))
    → IsLaid bytes (take (position_or_len is_blank (next_run bytes)) (next_run bytes) ∷ runs (next_blank (next_run bytes)))
more_laid bytes some later =
    let next : List ℕ = next_run bytes in
    let tail : List ℕ = next_blank next in
    let run : List ℕ = take (position_or_len is_blank next) next in
    record {
      gaps = lead tail ∷ later.gaps;
      count = ap suc later.count;
      whole = ap (λ (bs : List ℕ). lead bytes ++ (run ++ bs)) later.whole
          ∙ (ap (λ (bs : List ℕ). lead bytes ++ bs) (take-append-drop (position_or_len is_blank next) next)
          ∙ take-append-drop (prefix_len is_blank bytes) bytes);
      blank = All-cons (λ gap. AllPass is_blank gap) (lead tail) later.gaps (lead-blank tail) later.blank;
      solid = All-cons IsRun run (runs tail) (run_is_run next (at-next_run bytes) some) later.solid;
      between = each_between;
    }
  where
    each_between : (k : ℕ) → k + 1 < length (take (position_or_len is_blank (next_run bytes)) (next_run bytes) ∷ runs (next_blank (next_run bytes)))
        → 0 < length (get_or (lead (next_blank (next_run bytes)) ∷ later.gaps) k [])
    each_between zero below =
        let there : 0 < length (next_blank (next_run bytes)) = bytes_of_some (next_blank (next_run bytes)) (omega arith) in
        lead-some (next_blank (next_run bytes)) there (behind-blank (next_run bytes) there)
    each_between (suc k) below = later.between k (omega arith)

laid : (n : ℕ) (bytes : List ℕ) → length bytes ≤ n → IsLaid bytes (runs bytes)
laid zero [] enough = none_laid [] refl
laid zero (b ∷ rest) enough = absurd (omega arith)
laid (suc n) bytes enough = by_next (laid n) (next_run bytes) refl
  where
    by_next : ((fewer : List ℕ) → length fewer ≤ n → IsLaid fewer (runs fewer)) → (next : List ℕ) → next_run bytes ≡ next → IsLaid bytes (runs bytes)
    by_next later [] none =
        let nothing : [] ≡ runs bytes = sym (ap runs none) ∙ runs-next_run bytes in
        subst (λ (rs : List (List ℕ)). IsLaid bytes rs) nothing (none_laid bytes none)
    by_next later (b ∷ rest) is =
        let some : 0 < length (next_run bytes) = rw is (omega arith) in
        let at : AtRun (next_run bytes) = at-next_run bytes in
        let shorter : length (next_blank (next_run bytes)) ≤ n =
        omega (arith, length-drop (position_or_len is_blank (next_run bytes)) (next_run bytes), length-drop (prefix_len is_blank bytes) bytes, run_is_some (next_run bytes) at some) in
        let cut : take (position_or_len is_blank (next_run bytes)) (next_run bytes) ∷ runs (next_blank (next_run bytes)) ≡ runs bytes =
        sym (runs-at_run (next_run bytes) at some) ∙ runs-next_run bytes in
        subst (λ (rs : List (List ℕ)). IsLaid bytes rs) cut (more_laid bytes some (later (next_blank (next_run bytes)) shorter))

pub are_runs_of : (bytes : List ℕ) → AreRunsOf bytes (runs bytes)
are_runs_of bytes = by_laid (laid (length bytes) bytes (omega arith))
  where
    by_laid : IsLaid bytes (runs bytes) → AreRunsOf bytes (runs bytes)
    by_laid is = record {
      gaps = lead bytes ∷ is.gaps;
      count = omega (arith, is.count);
      whole = is.whole;
      blank = All-cons (λ gap. AllPass is_blank gap) (lead bytes) is.gaps (lead-blank bytes) is.blank;
      solid = is.solid;
      between = each_between;
    }
      where
        each_between : (k : ℕ) → 0 < k → k < length (runs bytes) → 0 < length (get_or (lead bytes ∷ is.gaps) k [])
        each_between zero some below = absurd (omega arith)
        each_between (suc k) some below = is.between k (omega arith)
