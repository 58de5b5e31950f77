-- The sessions are those of the lines.
use Rattle.std.proofs.Common.{◌≡◌, ◌≢◌, ◌⊎◌, inl, inr, ℕ, zero, suc, ◌+◌, ◌<◌, ◌≤◌, Bool, true, false, cond, ◌==◌, List, [], ◌∷◌, ◌++◌, length, map, refl, sym, ◌∙◌, ap, arith, tests}
use Rattle.std.specs.Prelude.{Option, Some, None, Result, Ok, Err, slice_get}
use Rattle.std.specs.List.{AllByRecursion, sum_by}
use Rattle.std.proofs.lemmas.List.Elements.{All-from_recursion}
use Rattle.std.proofs.lemmas.List.Sums.{sum_by-cons}
use Rattle.pybuf_lemmas.proofs.Numbers.{passed_numbers_are_equal}
use Rattle.pybuf_command.specs.declared.commands.LocalCommand.{LocalCommand}
use Rattle.pybuf_line.specs.Lines.{lines}
use Rattle.pybuf_share.specs.History.{Opening}
use Rattle.pybuf_share.specs.Finishing.{numbers_from}
use Rattle.pybuf_sessions.specs.Asks.{ask_in}
use Rattle.pybuf_sessions.specs.Scripts.{session_count, script_of, scripts_of}
use Rattle.pybuf_sessions.specs.Sessions.{opening_in, ask_before, asks_from, scripts_for, sessions_for, sessions_from, sessions_of_lines}
use Rattle.pybuf_sessions.specs.declared.asks.Ask.{Ask}
use Rattle.pybuf_sessions.specs.declared.sessions.Sessions.{Sessions}
use Rattle.pybuf_sessions.specs.Laws.{AreOfLines, SessionsAreOfLines, IsFirstWrong, IsWithoutFirst, IsWrongAt, WrongLineIsFirst}
use Rattle.pybuf_sessions.proofs.Runnable.{length-scripts}

-- ---- what lines ask for

asked_before : (n : ℕ) (x : Option Ask) (r : Result (List Ask) ℕ) (asks : List Ask) (others : List (Option Ask)) →
    ((rest : List Ask) → r ≡ Ok rest → others ≡ map Some rest) → ask_before n x r ≡ Ok asks → x ∷ others ≡ map Some asks
asked_before n None r asks others later h = cc
asked_before n (Some a) (Err m) asks others later h = cc
asked_before n (Some a) (Ok rest) asks others later h =
    let same : a ∷ rest ≡ asks = cc in
    ap (λ l. Some a ∷ l) (later rest refl) ∙ ap (map Some) same

asked_lines : (n : ℕ) (left : List (List ℕ)) (asks : List Ask) → asks_from n left ≡ Ok asks → map ask_in left ≡ map Some asks
asked_lines n [] asks h = let same : [] ≡ asks = cc in ap (map Some) same
asked_lines n (line ∷ rest) asks h =
    asked_before n (ask_in line) (asks_from (n + 1) rest) asks (map ask_in rest) (asked_lines (n + 1) rest) h

-- Line n is the first line that asks for nothing.
record IsStopped (n m : ℕ) (all : List (Option Ask)) : Type 0 where
  asks : List Ask
  others : List (Option Ask)
  asked : all ≡ map Some asks ++ None ∷ others
  number : m ≡ length asks + n

stopped_before : (n m : ℕ) (x : Option Ask) (r : Result (List Ask) ℕ) (all : List (Option Ask)) → ((k : ℕ) → r ≡ Err k → IsStopped (n + 1) k all) →
    ask_before n x r ≡ Err m → IsStopped n m (x ∷ all)
stopped_before n m None r all later h = record { asks = []; others = all; asked = refl; number = let same : n ≡ m = cc in omega (arith, same) }
stopped_before n m (Some a) (Ok rest) all later h = cc
stopped_before n m (Some a) (Err k) all later h =
    let s = later k refl in
    let same : k ≡ m = cc in
    record { asks = a ∷ s.asks; others = s.others; asked = ap (λ l. Some a ∷ l) s.asked; number = omega (arith, same, s.number) }

stopped_lines : (n m : ℕ) (left : List (List ℕ)) → asks_from n left ≡ Err m → IsStopped n m (map ask_in left)
stopped_lines n m [] h = cc
stopped_lines n m (line ∷ rest) h =
    stopped_before n m (ask_in line) (asks_from (n + 1) rest) (map ask_in rest) (λ k. stopped_lines (n + 1) k rest) h

-- ---- scripts

all_within : (asks : List Ask) (m : ℕ) → session_count asks ≤ m → AllByRecursion (λ a. a.session < m) asks
all_within [] m h = tt
all_within (a ∷ more) m h = (omega (arith, h), all_within more m (omega (arith, h)))

script_there : (f : ℕ → List LocalCommand) (j n k : ℕ) → k < n → slice_get (map f (numbers_from j n)) k ≡ Some (f (j + k))
script_there f j zero k h = absurd (omega (arith, h))
script_there f j (suc n) zero h = let same : j ≡ j + 0 = omega arith in ap (λ i. Some (f i)) same
script_there f j (suc n) (suc k) h =
    let same : suc j + k ≡ j + suc k = omega arith in
    script_there f (suc j) n k (omega (arith, h)) ∙ ap (λ i. Some (f i)) same

from_none : (k : ℕ) → 0 + k ≡ k
from_none k = omega arith

-- how many commands the scripts have together
abbrev total : (ℕ → List LocalCommand) → ℕ → ℕ → ℕ
total f j zero = 0
total f j (suc n) = length (f j) + total f (suc j) n

total_is : (f : ℕ → List LocalCommand) (j n : ℕ) → sum_by length (map f (numbers_from j n)) ≡ total f j n
total_is f j zero = refl
total_is f j (suc n) = sum_by-cons length (f j) (map f (numbers_from (suc j) n)) ∙ ap (λ t. length (f j) + t) (total_is f (suc j) n)

longer : (is : Bool) (c : LocalCommand) (script : List LocalCommand) → is ≡ true → length (cond is (c ∷ script) script) ≡ length script + 1
longer true c script h = omega arith
longer false c script h = cc

as_long : (is : Bool) (c : LocalCommand) (script : List LocalCommand) → is ≡ false → length (cond is (c ∷ script) script) ≡ length script
as_long true c script h = cc
as_long false c script h = refl

is_other : (n k : ℕ) → n ≢ k → (n == k) ≡ false
is_other n k h = grind (arith, tests)

other_number : (n k : ℕ) → (n == k) ≡ false → n ≢ k
other_number n k h = grind (arith, tests)

total_same : (a : Ask) (asks : List Ask) (j n : ℕ) → a.session < j → total (script_of (a ∷ asks)) j n ≡ total (script_of asks) j n
total_same a asks j zero h = refl
total_same a asks j (suc n) h =
    let first = as_long (a.session == j) a.command (script_of asks j) (is_other a.session j (λ e. absurd (omega (arith, h, e)))) in
    let rest = total_same a asks (suc j) n (omega (arith, h)) in
    omega (arith, first, rest)

total_more_if : (a : Ask) (asks : List Ask) (j n : ℕ) (is : Bool) → (a.session == j) ≡ is → j ≤ a.session → a.session < j + suc n →
    (j < a.session → total (script_of (a ∷ asks)) (suc j) n ≡ total (script_of asks) (suc j) n + 1) →
    total (script_of (a ∷ asks)) j (suc n) ≡ total (script_of asks) j (suc n) + 1
total_more_if a asks j n true e low high later =
    let here : a.session ≡ j = passed_numbers_are_equal a.session j e in
    let first = longer (a.session == j) a.command (script_of asks j) e in
    let rest = total_same a asks (suc j) n (omega (arith, here)) in
    omega (arith, first, rest)
total_more_if a asks j n false e low high later =
    let other : a.session ≢ j = other_number a.session j e in
    let first = as_long (a.session == j) a.command (script_of asks j) e in
    let rest = later (omega (arith, low, other)) in
    omega (arith, first, rest)

total_more : (a : Ask) (asks : List Ask) (j n : ℕ) → j ≤ a.session → a.session < j + n → total (script_of (a ∷ asks)) j n ≡ total (script_of asks) j n + 1
total_more a asks j zero low high = absurd (omega (arith, low, high))
total_more a asks j (suc n) low high =
    total_more_if a asks j n (a.session == j) refl low high (λ later. total_more a asks (suc j) n (omega (arith, later)) (omega (arith, high)))

total_none : (j n : ℕ) → total (script_of []) j n ≡ 0
total_none j zero = refl
total_none j (suc n) = let rest = total_none (suc j) n in omega (arith, rest)

total_all : (asks : List Ask) (n : ℕ) → session_count asks ≤ n → total (script_of asks) 0 n ≡ length asks
total_all [] n h = total_none 0 n
total_all (a ∷ more) n h =
    let one = total_more a more 0 n (omega arith) (omega (arith, h)) in
    let rest = total_all more n (omega (arith, h)) in
    omega (arith, one, rest)

-- ---- sessions

of_asks : (s : Sessions) (first : List ℕ) (rest : List (List ℕ)) (opening : Opening) (asks : List Ask) → opening_in first ≡ Some opening →
    opening.kind ≡ s.kind → opening.bytes ≡ s.bytes → scripts_of asks ≡ s.scripts → map ask_in rest ≡ map Some asks → AreOfLines s first rest
of_asks s first rest opening asks opens kind bytes scripts asked =
    let count : length s.scripts ≡ session_count asks = sym (ap length scripts) ∙ length-scripts asks in
    record {
      opening = opens ∙ (ap (λ k. Some (record { kind = k; bytes = opening.bytes })) kind ∙ ap (λ b. Some (record { kind = s.kind; bytes = b })) bytes);
      asks = asks;
      asked = asked;
      of_sessions = All-from_recursion (λ a. a.session < length s.scripts) asks (all_within asks (length s.scripts) (omega (arith, count)));
      scripts = λ k h. ap (λ all. slice_get all k) (sym scripts) ∙ (script_there (script_of asks) 0 (session_count asks) k (omega (arith, h, count)) ∙ ap (λ i. Some (script_of asks i)) (from_none k));
      once =
          ap (sum_by length) (sym scripts)
          ∙ (total_is (script_of asks) 0 (session_count asks) ∙ total_all asks (session_count asks) (omega arith));
    }

of_result : (s : Sessions) (first : List ℕ) (rest : List (List ℕ)) (opening : Opening) (r : Result (List Ask) ℕ) → opening_in first ≡ Some opening →
    asks_from 2 rest ≡ r → sessions_for opening (scripts_for r) ≡ Ok s → AreOfLines s first rest
of_result s first rest opening (Ok asks) opens e h =
    let kind : opening.kind ≡ s.kind = cc in
    let bytes : opening.bytes ≡ s.bytes = cc in
    let scripts : scripts_of asks ≡ s.scripts = cc in
    of_asks s first rest opening asks opens kind bytes scripts (asked_lines 2 rest asks e)
of_result s first rest opening (Err n) opens e h = cc

of_opening : (s : Sessions) (first : List ℕ) (rest : List (List ℕ)) (o : Option Opening) → opening_in first ≡ o → sessions_from o rest ≡ Ok s → AreOfLines s first rest
of_opening s first rest None e h = cc
of_opening s first rest (Some opening) e h = of_result s first rest opening (asks_from 2 rest) e refl h

of_lines : (all : List (List ℕ)) (s : Sessions) → sessions_of_lines all ≡ Ok s →
    (first : List ℕ) × (rest : List (List ℕ)) × (all ≡ first ∷ rest) × AreOfLines s first rest
of_lines [] s h = cc
of_lines (first ∷ rest) s h = (first, rest, refl, of_opening s first rest (opening_in first) refl h)

pub sessions_of : SessionsAreOfLines
sessions_of input s h = of_lines (lines input) s h

-- ---- the wrong line

wrong_result : (n : ℕ) (first : List ℕ) (rest : List (List ℕ)) (opening : Opening) (r : Result (List Ask) ℕ) → opening_in first ≡ Some opening →
    asks_from 2 rest ≡ r → sessions_for opening (scripts_for r) ≡ Err n → IsFirstWrong n first rest
wrong_result n first rest opening (Ok asks) opens e h = cc
wrong_result n first rest opening (Err m) opens e h =
    let same : m ≡ n = cc in
    let s = stopped_lines 2 m rest e in
    record { opening = opening; opens = opens; asks = s.asks; others = s.others; asked = s.asked; number = sym same ∙ s.number }

wrong_opening : (n : ℕ) (first : List ℕ) (rest : List (List ℕ)) (o : Option Opening) → opening_in first ≡ o → sessions_from o rest ≡ Err n →
    ((n ≡ 1) × (opening_in first ≡ None)) ⊎ IsFirstWrong n first rest
wrong_opening n first rest None e h = let same : n ≡ 1 = cc in inl (same, e)
wrong_opening n first rest (Some opening) e h = inr (wrong_result n first rest opening (asks_from 2 rest) e refl h)

wrong_lines : (all : List (List ℕ)) (n : ℕ) → sessions_of_lines all ≡ Err n → ((n ≡ 1) × IsWithoutFirst all) ⊎ IsWrongAt n all
wrong_lines [] n h = let same : n ≡ 1 = cc in inl (same, tt)
wrong_lines (first ∷ rest) n h = wrong_opening n first rest (opening_in first) refl h

pub wrong_is_first : WrongLineIsFirst
wrong_is_first input n h = wrong_lines (lines input) n h
