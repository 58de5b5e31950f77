-- Forgetting changes no step, and so no run.
use Rattle.std.proofs.Common.{◌≡◌, ℕ, List, [], ◌∷◌, ◌++◌, Bool, true, false, ap, ap₂, sym, ◌∙◌, refl}
use Rattle.std.specs.Prelude.{◌==◌, ◌&&◌, nat_lt, map, slice_get, Option, Some, None, Ok, Err, if◌then◌else◌}
use Rattle.std.specs.Option.{option_map}
use Rattle.pybuf_value.specs.declared.faults.Fault.TheVariants as fault
use Rattle.pybuf_value.specs.declared.snaps.Snap.{Snap}
use Rattle.pybuf_desc.specs.Layouts.{Layout}
use Rattle.pybuf_command.specs.declared.kinds.Subject.{Subject}
use Rattle.pybuf_command.specs.declared.kinds.Subject.TheVariants as subject
use Rattle.pybuf_command.specs.declared.commands.Verb.{Verb}
use Rattle.pybuf_command.specs.declared.commands.LocalReply.{LocalReply}
use Rattle.pybuf_command.specs.declared.commands.LocalReply.TheVariants as reply
use Rattle.pybuf_command.specs.declared.commands.LocalCommand.{LocalCommand}
use Rattle.pybuf_command.specs.declared.loans.Loan.{Loan}
use Rattle.pybuf_command.specs.declared.loans.Loan.TheVariants as loan
use Rattle.pybuf_command.specs.Loans.{loan_of}
use Rattle.pybuf_command.specs.Handles.{handles_of, handles_read}
use Rattle.pybuf_state.specs.Exporter.{Exporter, View, Iterator}
use Rattle.pybuf_state.specs.Loans.{Lent, is_named, are_named, given_loan, names_of, lent_as, subject_in, snap_in, lents_by}
use Rattle.pybuf_state.specs.Snaps.{snap_of_view, iterator_snap}
use Rattle.pybuf_exporter.specs.Step.{effect, answer_by, settled_answer}
use Rattle.pybuf_exporter.specs.Stepping.{step_of}
use Rattle.pybuf_forgetting.specs.Forgotten.{forgotten_view, forgotten_iterator, forgotten, forgotten_snap, forgotten_loan, forgotten_pair}
use Rattle.pybuf_forgetting.specs.Laws.{IsSameStep, ForgettingChangesNoStep, ForgettingChangesNoStepByNames, ForgettingChangesNoSnap, ForgottenLoansChangeNoStep, Turn, begun, replies_of, after_run, without_forgetting, ForgettingChangesNoRun}
use Rattle.pybuf_forgetting.proofs.Basics.{map_get, twice_is_once, views_long, iterators_long}
use Rattle.pybuf_forgetting.proofs.Lents.{forgotten_lent, forgotten_lents, snap_twice, effect_same}
use Rattle.pybuf_forgetting.proofs.Effects.{Effect, told, told_if, view_effect, iterator_effect}
use Rattle.pybuf_forgetting.proofs.Edits.{own_effect}

-- ---- which handles are known

named_same : (e : Exporter) (l : Option Loan) → is_named (forgotten e) l ≡ is_named e l
named_same e (Some loan.Own) = refl
named_same e (Some (loan.View k)) = ap (λ (n : ℕ). nat_lt k n) (views_long e)
named_same e (Some (loan.Iter k)) = ap (λ (n : ℕ). nat_lt k n) (iterators_long e)
named_same e (Some (loan.Other snap)) = refl
named_same e (Some loan.Missing) = refl
named_same e None = refl

are_named_same : (e : Exporter) (named : ℕ → Option Loan) (handles : List ℕ) → are_named (forgotten e) named handles ≡ are_named e named handles
are_named_same e named [] = refl
are_named_same e named (h ∷ handles) = ap₂ (λ (a b : Bool). a && b) (named_same e (named h)) (are_named_same e named handles)

-- ---- what is lent

view_snap : (bytes : List ℕ) (made_at : ℕ) (layout : Layout) (released : Bool)
    → forgotten_snap (snap_of_view bytes (forgotten_view (record { made_at = made_at; layout = layout; released = released }))) ≡ forgotten_snap (snap_of_view bytes (record { made_at = made_at; layout = layout; released = released }))
view_snap bytes made_at layout true = refl
view_snap bytes made_at layout false = refl

view_snaps : (bytes : List ℕ) (o : Option View) → option_map forgotten_snap (option_map (snap_of_view bytes) (option_map forgotten_view o)) ≡ option_map forgotten_snap (option_map (snap_of_view bytes) o)
view_snaps bytes None = refl
view_snaps bytes (Some v) = ap (λ (s : Snap). let there : Option Snap = Some s in there) (view_snap bytes v.made_at v.layout v.released)

iterator_snaps : (o : Option Iterator) → option_map (λ (it : Iterator). iterator_snap) (option_map forgotten_iterator o) ≡ option_map (λ (it : Iterator). iterator_snap) o
iterator_snaps None = refl
iterator_snaps (Some it) = refl

pub subject_snap : ForgettingChangesNoSnap
subject_snap e subject.Own = refl
subject_snap e (subject.View k) = ap (λ (o : Option View). option_map forgotten_snap (option_map (snap_of_view e.bytes) o)) (map_get forgotten_view e.views k) ∙ view_snaps e.bytes (slice_get e.views k)
subject_snap e (subject.Iter k) = ap (λ (o : Option Iterator). option_map forgotten_snap (option_map (λ it. iterator_snap) o)) (map_get forgotten_iterator e.iterators k) ∙ ap (option_map forgotten_snap) (iterator_snaps (slice_get e.iterators k))

loan_snap : (e : Exporter) (l : Option Loan) → option_map forgotten_snap (snap_in (forgotten e) l) ≡ option_map forgotten_snap (snap_in e l)
loan_snap e (Some loan.Own) = subject_snap e subject.Own
loan_snap e (Some (loan.View k)) = subject_snap e (subject.View k)
loan_snap e (Some (loan.Iter k)) = subject_snap e (subject.Iter k)
loan_snap e (Some (loan.Other snap)) = refl
loan_snap e (Some loan.Missing) = refl
loan_snap e None = refl

one_lent : (h : ℕ) (s : Option Subject) (o : Option Snap) → forgotten_lents (lent_as h s o) ≡ lent_as h s (option_map forgotten_snap o)
one_lent h s None = refl
one_lent h s (Some snap) = refl

lents_joined : (xs ys : List Lent) → forgotten_lents (xs ++ ys) ≡ forgotten_lents xs ++ forgotten_lents ys
lents_joined [] ys = refl
lents_joined (x ∷ xs) ys = ap (λ zs. forgotten_lent x ∷ zs) (lents_joined xs ys)

-- Two ways to lend for each handle give the same once released views are forgotten.
lents_same : (e f : Exporter) (named others : ℕ → Option Loan) → ((h : ℕ) → subject_in (named h) ≡ subject_in (others h)) → ((h : ℕ) → option_map forgotten_snap (snap_in e (named h)) ≡ option_map forgotten_snap (snap_in f (others h)))
    → (handles : List ℕ) → forgotten_lents (lents_by e named handles) ≡ forgotten_lents (lents_by f others handles)
lents_same e f named others subjects snaps [] = refl
lents_same e f named others subjects snaps (h ∷ handles) =
    lents_joined (lent_as h (subject_in (named h)) (snap_in e (named h))) (lents_by e named handles)
    ∙ ap₂ (λ (xs ys : List Lent). xs ++ ys)
    (one_lent h (subject_in (named h)) (snap_in e (named h)) ∙ ap₂ (lent_as h) (subjects h) (snaps h) ∙ sym (one_lent h (subject_in (others h)) (snap_in f (others h))))
    (lents_same e f named others subjects snaps handles)
    ∙ sym (lents_joined (lent_as h (subject_in (others h)) (snap_in f (others h))) (lents_by f others handles))

-- An effect does the same with either.
by_lents : (e : Exporter) (s : Subject) (v : Verb) (lents others : List Lent) → forgotten_lents lents ≡ forgotten_lents others → effect e s v lents ≡ effect e s v others
by_lents e s v lents others same = effect_same e s v lents ∙ ap (effect e s v) same ∙ sym (effect_same e s v others)

-- ---- one step

effect_told : (e : Exporter) (s : Subject) (v : Verb) (lents : List Lent) → told (effect (forgotten e) s v lents) ≡ told (effect e s v lents)
effect_told e subject.Own v lents = own_effect e v lents
effect_told e (subject.View k) v lents = view_effect e k v lents
effect_told e (subject.Iter k) v lents = iterator_effect e k v

abbrev unknown : Effect
unknown = Err fault.UnknownName

answer_told : (e : Exporter) (s : Subject) (v : Verb) (named : ℕ → Option Loan) → told (answer_by (forgotten e) s v named) ≡ told (answer_by e s v named)
answer_told e s v named =
    let lents = lents_by (forgotten e) named (handles_read s v) in
    let others = lents_by e named (handles_read s v) in
    let same : forgotten_lents lents ≡ forgotten_lents others = lents_same (forgotten e) e named named (λ h. refl) (λ h. loan_snap e (named h)) (handles_read s v) in
    ap (λ (b : Bool). told (if b then effect (forgotten e) s v lents else unknown)) (are_named_same e named (handles_of v))
    ∙ told_if (are_named e named (handles_of v)) (effect (forgotten e) s v lents) unknown (effect e s v others) unknown
    (ap told (by_lents (forgotten e) s v lents others same) ∙ effect_told e s v others) refl

settled_same : (e : Exporter) (r s : Effect) → told r ≡ told s → IsSameStep (settled_answer (forgotten e) r) (settled_answer e s)
settled_same e (Ok one) (Ok other) same =
    let pair : (forgotten one.0, one.1) ≡ (forgotten other.0, other.1) = cc in record {
      reply = ap (λ (after : Exporter × LocalReply). after.1) pair;
      bytes = ap (λ (after : Exporter × LocalReply). after.0.bytes) pair;
      exporter = ap (λ (after : Exporter × LocalReply). after.0) pair;
    }
settled_same e (Ok one) (Err g) same = absurd (cc)
settled_same e (Err f) (Ok other) same = absurd (cc)
settled_same e (Err f) (Err g) same = record {
  reply = ap reply.Refused (let faults : f ≡ g = cc in faults);
  bytes = refl;
  exporter = twice_is_once e;
}

pub no_step_by_names : ForgettingChangesNoStepByNames
no_step_by_names e s v named = settled_same e (answer_by (forgotten e) s v named) (answer_by e s v named) (answer_told e s v named)

pub no_step : ForgettingChangesNoStep
no_step e s v loans = no_step_by_names e s v (names_of loans)

-- ---- loans of other exporters

found_loan : (found : Bool) (l : Loan) (o p : Option Loan) → o ≡ option_map forgotten_loan p → (if found then Some (forgotten_loan l) else o) ≡ option_map forgotten_loan (if found then Some l else p)
found_loan true l o p same = refl
found_loan false l o p same = same

loan_found : (loans : List (ℕ × Loan)) (h : ℕ) → loan_of (map forgotten_pair loans) h ≡ option_map forgotten_loan (loan_of loans h)
loan_found [] h = refl
loan_found (pair ∷ loans) h = found_loan (pair.0 == h) pair.1 (loan_of (map forgotten_pair loans) h) (loan_of loans h) (loan_found loans h)

given_same : (l : Option Loan) → given_loan (option_map forgotten_loan l) ≡ option_map forgotten_loan (given_loan l)
given_same None = refl
given_same (Some loan.Own) = refl
given_same (Some (loan.View k)) = refl
given_same (Some (loan.Iter k)) = refl
given_same (Some (loan.Other snap)) = refl
given_same (Some loan.Missing) = refl

name_same : (loans : List (ℕ × Loan)) (h : ℕ) → names_of (map forgotten_pair loans) h ≡ option_map forgotten_loan (names_of loans h)
name_same loans h = ap given_loan (loan_found loans h) ∙ given_same (loan_of loans h)

known_loan : (e : Exporter) (l : Option Loan) → is_named e (option_map forgotten_loan l) ≡ is_named e l
known_loan e None = refl
known_loan e (Some loan.Own) = refl
known_loan e (Some (loan.View k)) = refl
known_loan e (Some (loan.Iter k)) = refl
known_loan e (Some (loan.Other snap)) = refl
known_loan e (Some loan.Missing) = refl

loan_subject : (l : Option Loan) → subject_in (option_map forgotten_loan l) ≡ subject_in l
loan_subject None = refl
loan_subject (Some loan.Own) = refl
loan_subject (Some (loan.View k)) = refl
loan_subject (Some (loan.Iter k)) = refl
loan_subject (Some (loan.Other snap)) = refl
loan_subject (Some loan.Missing) = refl

other_snap : (e : Exporter) (l : Option Loan) → option_map forgotten_snap (snap_in e (option_map forgotten_loan l)) ≡ option_map forgotten_snap (snap_in e l)
other_snap e None = refl
other_snap e (Some loan.Own) = refl
other_snap e (Some (loan.View k)) = refl
other_snap e (Some (loan.Iter k)) = refl
other_snap e (Some (loan.Other snap)) = ap (λ (s : Snap). let there : Option Snap = Some s in there) (snap_twice snap)
other_snap e (Some loan.Missing) = refl

known_same : (e : Exporter) (loans : List (ℕ × Loan)) (handles : List ℕ) → are_named e (names_of (map forgotten_pair loans)) handles ≡ are_named e (names_of loans) handles
known_same e loans [] = refl
known_same e loans (h ∷ handles) = ap₂ (λ (a b : Bool). a && b) (ap (is_named e) (name_same loans h) ∙ known_loan e (names_of loans h)) (known_same e loans handles)

pub no_loan : ForgottenLoansChangeNoStep
no_loan e s v loans =
    let lents = lents_by e (names_of (map forgotten_pair loans)) (handles_read s v) in
    let others = lents_by e (names_of loans) (handles_read s v) in
    let same : forgotten_lents lents ≡ forgotten_lents others =
    lents_same e e (names_of (map forgotten_pair loans)) (names_of loans) (λ h. ap subject_in (name_same loans h) ∙ loan_subject (names_of loans h))
    (λ h. ap (λ (l : Option Loan). option_map forgotten_snap (snap_in e l)) (name_same loans h) ∙ other_snap e (names_of loans h)) (handles_read s v) in
    ap₂ (λ (b : Bool) (r : Effect). settled_answer e (if b then r else unknown)) (known_same e loans (handles_of v)) (by_lents e s v lents others same)

-- ---- runs

-- The same command of exporters that are the same once both have forgotten.
step_same : (e f : Exporter) (c : LocalCommand) → forgotten e ≡ forgotten f → IsSameStep (step_of e c) (step_of f c)
step_same e f c same =
    let one = no_step e c.subject c.verb c.loans in
    let other = no_step f c.subject c.verb c.loans in record {
      reply = sym one.reply ∙ ap (λ (x : Exporter). (step_of x c).1) same ∙ other.reply;
      bytes = sym one.bytes ∙ ap (λ (x : Exporter). (step_of x c).0.bytes) same ∙ other.bytes;
      exporter = sym one.exporter ∙ ap (λ (x : Exporter). forgotten (step_of x c).0) same ∙ other.exporter;
    }

begun_by : (e : Exporter) (forgets : Bool) → forgotten (if forgets then forgotten e else e) ≡ forgotten e
begun_by e true = twice_is_once e
begun_by e false = refl

record Goes (e f : Exporter) (turns : List Turn) : Type 0 where
  replies : replies_of e turns ≡ replies_of f (without_forgetting turns)
  exporter : forgotten (after_run e turns) ≡ forgotten (after_run f (without_forgetting turns))

goes : (e f : Exporter) (turns : List Turn) → forgotten e ≡ forgotten f → Goes e f turns
goes e f [] same = record { replies = refl; exporter = same }
goes e f (turn ∷ turns) same =
    let step = step_same (begun e turn) f turn.command (begun_by e turn.forgets ∙ same) in
    let later = goes (step_of (begun e turn) turn.command).0 (step_of f turn.command).0 turns step.exporter in record {
      replies = ap₂ (λ (r : LocalReply) (rs : List LocalReply). r ∷ rs) step.reply later.replies;
      exporter = later.exporter;
    }

pub no_run : ForgettingChangesNoRun
no_run e turns =
    let all = goes e e turns refl in record {
      replies = all.replies;
      bytes = ap (λ (x : Exporter). x.bytes) all.exporter;
      exporter = all.exporter;
    }
