-- The sessions of lines can be carried out.
use Rattle.std.proofs.Common.{◌≡◌, ℕ, zero, suc, ◌+◌, ◌<◌, ◌≤◌, Bool, true, false, cond, ◌==◌, List, [], ◌∷◌, ◌++◌, length, map, refl, ap, subst, arith, tests}
use Rattle.std.specs.Prelude.{Option, Some, None, Result, Ok, Err, IfOk}
use Rattle.std.specs.List.{All, AllByRecursion, list_any}
use Rattle.std.proofs.lemmas.List.Elements.{All-from_recursion}
use Rattle.pybuf_value.specs.Choosing.{◌>>=◌}
use Rattle.pybuf_value.specs.Spelling.{handle_text}
use Rattle.pybuf_command.specs.declared.kinds.Subject.{Subject}
use Rattle.pybuf_command.specs.declared.kinds.Subject.TheVariants as subject
use Rattle.pybuf_command.specs.declared.loans.Loan.{Loan}
use Rattle.pybuf_command.specs.declared.commands.LocalCommand.{LocalCommand}
use Rattle.pybuf_command.specs.declared.worlds.Command.{Command}
use Rattle.pybuf_command.specs.declared.worlds.Command.TheVariants as command
use Rattle.pybuf_state.specs.Fits.{all_fit, LoansFit}
use Rattle.pybuf_line.specs.Scalars.{handle_in}
use Rattle.pybuf_line.specs.Words.{words}
use Rattle.pybuf_line.specs.Lines.{lines}
use Rattle.pybuf_line.specs.Commands.{command_in}
use Rattle.pybuf_line.specs.declared.unread.Misread.{Misread}
use Rattle.pybuf_share.specs.History.{Opening}
use Rattle.pybuf_share.specs.Finishing.{numbers_from}
use Rattle.pybuf_share.specs.Working.{ScriptFits}
use Rattle.pybuf_sessions.specs.Names.{name_in}
use Rattle.pybuf_sessions.specs.Pieces.{pieces, is_handle, loan_at, next_after, handled_from, loans_from}
use Rattle.pybuf_sessions.specs.Asks.{session_in, local_of, local_command_in, rest_text, ask_of_words, ask_in}
use Rattle.pybuf_sessions.specs.Scripts.{session_count, script_of, scripts_of}
use Rattle.pybuf_sessions.specs.Sessions.{opening_in, ask_before, asks_from, scripts_for, sessions_for, sessions_from, sessions_of_lines, sessions_in}
use Rattle.pybuf_sessions.specs.Reading.{ReadsAll}
use Rattle.pybuf_sessions.specs.declared.asks.Ask.{Ask}
use Rattle.pybuf_sessions.specs.declared.sessions.Sessions.{Sessions}
use Rattle.pybuf_sessions.specs.Laws.{AreRunnable, SessionsAreRunnable}

-- ---- one line

loan_fits : (n : ℕ) (name : Option Subject) (rest : List (ℕ × Loan)) → all_fit rest ≡ true → all_fit (loan_at n name ++ rest) ≡ true
loan_fits n (Some subject.Own) rest h = h
loan_fits n (Some (subject.View k)) rest h = h
loan_fits n (Some (subject.Iter k)) rest h = h
loan_fits n None rest h = h

loans_fit : (n : ℕ) (all : List (List ℕ)) → all_fit (loans_from n all) ≡ true
loans_fit n [] = refl
loans_fit n (piece ∷ more) = loan_fits n (name_in piece) (loans_from (next_after n (name_in piece)) more) (loans_fit (next_after n (name_in piece)) more)

-- What a line asks for is of one of 16 sessions, and what is lent to it fits.
pub record IsProper (a : Ask) : Type 0 where
  pub session : a.session < 16
  pub fit : LoansFit a.command.loans

session_small : (text : List ℕ) (k : ℕ) → session_in text ≡ Some k → k < 16
session_small text k h = grind (arith, tests)

local_fits : (s : Subject) (loans : List (ℕ × Loan)) (asked : Option Command) (c : LocalCommand) → LoansFit loans → local_of s loans asked ≡ Some c → LoansFit c.loans
local_fits s loans (Some (command.Do handle v)) c fit h = let same : loans ≡ c.loans = cc in subst LoansFit same fit
local_fits s loans (Some (command.New kind options)) c fit h = cc
local_fits s loans None c fit h = cc

command_fits_if : (refused : Bool) (s : Subject) (loans : List (ℕ × Loan)) (asked : Option Command) (c : LocalCommand) → LoansFit loans →
    cond refused None (local_of s loans asked) ≡ Some c → LoansFit c.loans
command_fits_if true s loans asked c fit h = cc
command_fits_if false s loans asked c fit h = local_fits s loans asked c fit h

command_fits : (s : Subject) (word rest : List ℕ) (c : LocalCommand) → local_command_in s word rest ≡ Some c → LoansFit c.loans
command_fits s word rest c h =
    command_fits_if (list_any is_handle (pieces rest)) s (loans_from 0 (pieces rest))
    (command_in handle_in (word ++ 32 ∷ handle_text 0 ++ handled_from 0 (pieces rest))) c (loans_fit 0 (pieces rest)) h

proper_command : (n : ℕ) (c : Option LocalCommand) (a : Ask) → n < 16 → ((k : LocalCommand) → c ≡ Some k → LoansFit k.loans) →
    (c >>= (λ k. Some (record { session = n; command = k }))) ≡ Some a → IsProper a
proper_command n (Some k) a small fit h =
    let session : n ≡ a.session = cc in
    let same : k ≡ a.command = cc in
    record {
      session = subst (λ m. m < 16) session small;
      fit = subst (λ (l : LocalCommand). LoansFit l.loans) same (fit k refl);
    }
proper_command n None a small fit h = cc

proper_subject : (n : ℕ) (s : Option Subject) (c : Subject → Option LocalCommand) (a : Ask) → n < 16 → ((t : Subject) (k : LocalCommand) → c t ≡ Some k → LoansFit k.loans) →
    (s >>= (λ t. c t >>= (λ k. Some (record { session = n; command = k })))) ≡ Some a → IsProper a
proper_subject n (Some t) c a small fit h = proper_command n (c t) a small (fit t) h
proper_subject n None c a small fit h = cc

proper_session : (n : Option ℕ) (s : Option Subject) (c : Subject → Option LocalCommand) (a : Ask) → ((k : ℕ) → n ≡ Some k → k < 16) →
    ((t : Subject) (k : LocalCommand) → c t ≡ Some k → LoansFit k.loans) →
    (n >>= (λ m. s >>= (λ t. c t >>= (λ k. Some (record { session = m; command = k }))))) ≡ Some a → IsProper a
proper_session (Some k) s c a small fit h = proper_subject k s c a (small k refl) fit h
proper_session None s c a small fit h = cc

proper_words : (all : List (List ℕ)) (a : Ask) → ask_of_words all ≡ Some a → IsProper a
proper_words [] a h = cc
proper_words (session ∷ []) a h = cc
proper_words (session ∷ word ∷ []) a h = cc
proper_words (session ∷ word ∷ name ∷ arguments) a h =
    proper_session (session_in session) (name_in name) (λ s. local_command_in s word (rest_text arguments)) a (session_small session)
    (λ s c e. command_fits s word (rest_text arguments) c e) h

proper_line : (line : List ℕ) (a : Ask) → ask_in line ≡ Some a → IsProper a
unfolding ask_in
proper_line line a h = proper_words (words line) a h

-- ---- all lines

proper_before : (n : ℕ) (x : Option Ask) (r : Result (List Ask) ℕ) (asks : List Ask) → ((a : Ask) → x ≡ Some a → IsProper a) →
    ((rest : List Ask) → r ≡ Ok rest → AllByRecursion IsProper rest) → ask_before n x r ≡ Ok asks → AllByRecursion IsProper asks
proper_before n None r asks first others h = cc
proper_before n (Some a) (Err m) asks first others h = cc
proper_before n (Some a) (Ok rest) asks first others h =
    let same : a ∷ rest ≡ asks = cc in
    subst (AllByRecursion IsProper) same (first a refl, others rest refl)

pub proper_lines : (n : ℕ) (left : List (List ℕ)) (asks : List Ask) → asks_from n left ≡ Ok asks → AllByRecursion IsProper asks
proper_lines n [] asks h = let same : [] ≡ asks = cc in subst (AllByRecursion IsProper) same tt
proper_lines n (line ∷ rest) asks h =
    proper_before n (ask_in line) (asks_from (n + 1) rest) asks (proper_line line) (proper_lines (n + 1) rest) h

few_sessions : (asks : List Ask) → AllByRecursion IsProper asks → session_count asks ≤ 16
few_sessions [] h = omega arith
few_sessions (a ∷ more) h = omega (arith, h.0.session, few_sessions more h.1)

some_session : (asks : List Ask) → 0 < session_count asks
some_session [] = omega arith
some_session (a ∷ more) = omega (arith, some_session more)

length-scripts_of : (f : ℕ → List LocalCommand) (j n : ℕ) → length (map f (numbers_from j n)) ≡ n
length-scripts_of f j zero = refl
length-scripts_of f j (suc n) = ap suc (length-scripts_of f (suc j) n)

pub length-scripts : (asks : List Ask) → length (scripts_of asks) ≡ session_count asks
length-scripts asks = length-scripts_of (script_of asks) 0 (session_count asks)

script_fits_if : (is : Bool) (c : LocalCommand) (script : List LocalCommand) → LoansFit c.loans → AllByRecursion (λ d. LoansFit d.loans) script →
    AllByRecursion (λ d. LoansFit d.loans) (cond is (c ∷ script) script)
script_fits_if true c script fit h = (fit, h)
script_fits_if false c script fit h = h

script_fits : (asks : List Ask) (k : ℕ) → AllByRecursion IsProper asks → AllByRecursion (λ d. LoansFit d.loans) (script_of asks k)
script_fits [] k h = tt
script_fits (a ∷ more) k h = script_fits_if (a.session == k) a.command (script_of more k) h.0.fit (script_fits more k h.1)

scripts_fit : (asks : List Ask) (j n : ℕ) → AllByRecursion IsProper asks → AllByRecursion ScriptFits (map (script_of asks) (numbers_from j n))
scripts_fit asks j zero h = tt
scripts_fit asks j (suc n) h = (All-from_recursion (λ d. LoansFit d.loans) (script_of asks j) (script_fits asks j h), scripts_fit asks (suc j) n h)

runnable : (asks : List Ask) → AllByRecursion IsProper asks → AreRunnable (scripts_of asks)
runnable asks h =
    let count = length-scripts asks in
    record {
      some = omega (arith, count, some_session asks);
      few = omega (arith, count, few_sessions asks h);
      fit = All-from_recursion ScriptFits (scripts_of asks) (scripts_fit asks 0 (session_count asks) h);
    }

runnable_for : (opening : Opening) (r : Result (List Ask) ℕ) (s : Sessions) → ((asks : List Ask) → r ≡ Ok asks → AllByRecursion IsProper asks) →
    sessions_for opening (scripts_for r) ≡ Ok s → AreRunnable s.scripts
runnable_for opening (Ok asks) s proper h =
    let same : scripts_of asks ≡ s.scripts = cc in
    subst AreRunnable same (runnable asks (proper asks refl))
runnable_for opening (Err n) s proper h = cc

runnable_from : (opening : Option Opening) (rest : List (List ℕ)) (s : Sessions) → sessions_from opening rest ≡ Ok s → AreRunnable s.scripts
runnable_from None rest s h = cc
runnable_from (Some opening) rest s h = runnable_for opening (asks_from 2 rest) s (proper_lines 2 rest) h

runnable_lines : (all : List (List ℕ)) (s : Sessions) → sessions_of_lines all ≡ Ok s → AreRunnable s.scripts
runnable_lines [] s h = cc
runnable_lines (first ∷ rest) s h = runnable_from (opening_in first) rest s h

pub sessions_runnable : SessionsAreRunnable
sessions_runnable input s h = runnable_lines (lines input) s h

-- ---- what was read

pub some_read : (r : Result Sessions Misread) (input : List ℕ) → SessionsAreRunnable → ReadsAll r (sessions_in input) → IfOk r (λ s. 0 < length s.scripts)
some_read (Ok s) input law h = (law input s h).some
some_read (Err e) input law h = tt

pub few_read : (r : Result Sessions Misread) (input : List ℕ) → SessionsAreRunnable → ReadsAll r (sessions_in input) → IfOk r (λ s. length s.scripts ≤ 16)
few_read (Ok s) input law h = (law input s h).few
few_read (Err e) input law h = tt

pub fit_read : (r : Result Sessions Misread) (input : List ℕ) → SessionsAreRunnable → ReadsAll r (sessions_in input) → IfOk r (λ s. All ScriptFits s.scripts)
fit_read (Ok s) input law h = (law input s h).fit
fit_read (Err e) input law h = tt
