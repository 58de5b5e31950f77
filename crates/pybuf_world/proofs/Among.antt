-- An exporter steps while the others are lent to it. It does what it does with the loans.
use Rattle.std.proofs.Common.{◌≡◌, ◌≢◌, ℕ, suc, ◌<◌, List, [], ◌∷◌, ◌++◌, length, map, set, Bool, true, false, true≢false, get_or, ap, ap₂, sym, ◌∙◌, refl, arith}
use Rattle.std.specs.Prelude.{◌==◌, ◌&&◌, ◌||◌, IfOk, OnErr, slice_get, Option, Some, None, Result, Ok, Err, if◌then◌else◌}
use Rattle.std.specs.List.{list_all, list_any}
use Rattle.std.specs.Option.{option_map}
use Rattle.std.proofs.lemmas.Bool.{eqb-true, eq-eqb, ne_eqb}
use Rattle.std.proofs.lemmas.List.Folds.{list_any_at}
use Rattle.pybuf_lemmas.proofs.Lists.{set_to_itself, set_twice}
use Rattle.pybuf_value.specs.declared.snaps.Snap.{Snap}
use Rattle.pybuf_value.specs.declared.values.Value.{Value}
use Rattle.pybuf_value.specs.declared.values.Value.TheVariants as value
use Rattle.pybuf_command.specs.declared.kinds.Subject.{Subject}
use Rattle.pybuf_command.specs.declared.kinds.Subject.TheVariants as subject
use Rattle.pybuf_command.specs.declared.commands.Verb.{Verb}
use Rattle.pybuf_command.specs.declared.commands.Verb.TheVariants as verb
use Rattle.pybuf_command.specs.declared.commands.LocalReply.{LocalReply}
use Rattle.pybuf_command.specs.declared.loans.Loan.{Loan}
use Rattle.pybuf_command.specs.declared.loans.Loan.TheVariants as loan
use Rattle.pybuf_command.specs.Handles.{handles_in_slice, handles_in, handles_in_option, handle_of_value, handle_of_option, handles_of, handles_read}
use Rattle.pybuf_command.specs.Loans.{loan_of}
use Rattle.pybuf_state.specs.Exporter.{Exporter}
use Rattle.pybuf_state.specs.Loans.{Lent, given_loan, names_of, is_named, lent_as, lents_by, loan_of_snap, snap_in, subject_in}
use Rattle.pybuf_state.specs.Names.{loan_of_own}
use Rattle.pybuf_exporter.specs.Step.{estep_by}
use Rattle.pybuf_exporter.specs.Laws.{AreAlike, NamesAlikeDoTheSame}
use Rattle.pybuf_world.specs.declared.named.Named.{Named}
use Rattle.pybuf_world.specs.declared.named.Target.{Target}
use Rattle.pybuf_world.specs.World.{World, exporter_of, subject_of, loan_of_other, loan_of_name, loan_for, loans_of}
use Rattle.pybuf_world.specs.Stepping.{named_to, local_step}
use Rattle.pybuf_world.proofs.Lists.{slice_get-set_other}

-- ---- what a name is lent as

pub own_given : (s : Subject) → given_loan (Some (loan_of_own s)) ≡ Some (loan_of_own s)
own_given subject.Own = refl
own_given (subject.View k) = refl
own_given (subject.Iter k) = refl

pub snap_given : (o : Option Snap) → given_loan (Some (loan_of_snap o)) ≡ option_map loan.Other o
snap_given None = refl
snap_given (Some snap) = refl

-- The name is of another exporter than the one that steps.
pub another_lends : (w : World) (i : ℕ) (name : Named) (j k : ℕ) (s : Subject) → k ≡ exporter_of name → k ≢ i → j ≡ exporter_of name → s ≡ subject_of name
    → loan_of_name w i (Some name) ≡ loan_of_other (slice_get w.exporters j) s
another_lends w i name j k s is other at which =
    ap (λ (own : Bool). if own then loan_of_own (subject_of name) else loan_of_other (slice_get w.exporters (exporter_of name)) (subject_of name))
    (ne_eqb (exporter_of name) i (λ same. other (is ∙ same)))
    ∙ ap₂ (λ (x : ℕ) (y : Subject). loan_of_other (slice_get w.exporters x) y) (sym at) (sym which)

-- ---- handles that are among others

abbrev AllAmong : List ℕ → List ℕ → Type 0
AllAmong reads handles = (k d : ℕ) → k < length reads → list_any (λ (h : ℕ). h == get_or reads k d) handles ≡ true

among_self : (xs : List ℕ) → AllAmong xs xs
among_self xs k d below = list_any_at (λ (h : ℕ). h == get_or xs k d) xs k d below (eq-eqb (get_or xs k d) (get_or xs k d) refl)

none_among : (ys : List ℕ) → AllAmong [] ys
none_among ys k d below = absurd (omega (arith, below))

or_both : (b c d : Bool) → (c ≡ true → d ≡ true) → (b || c) ≡ true → (b || d) ≡ true
or_both true c d more is = refl
or_both false c d more is = more is

or_true : (b c : Bool) → c ≡ true → (b || c) ≡ true
or_true true c is = refl
or_true false c is = is

any_front : (p : ℕ → Bool) (xs ys : List ℕ) → list_any p xs ≡ true → list_any p (xs ++ ys) ≡ true
any_front p [] ys any = absurd (true≢false (sym any))
any_front p (x ∷ xs) ys any = or_both (p x) (list_any p xs) (list_any p (xs ++ ys)) (any_front p xs ys) any

any_back : (p : ℕ → Bool) (xs ys : List ℕ) → list_any p ys ≡ true → list_any p (xs ++ ys) ≡ true
any_back p [] ys any = any
any_back p (x ∷ xs) ys any = or_true (p x) (list_any p (xs ++ ys)) (any_back p xs ys any)

among_front : (xs ys zs : List ℕ) → AllAmong xs ys → AllAmong xs (ys ++ zs)
among_front xs ys zs among k d below = any_front (λ (h : ℕ). h == get_or xs k d) ys zs (among k d below)

among_back : (xs ys zs : List ℕ) → AllAmong xs zs → AllAmong xs (ys ++ zs)
among_back xs ys zs among k d below = any_back (λ (h : ℕ). h == get_or xs k d) ys zs (among k d below)

whole_among : (v : Value) → AllAmong (handle_of_value v) (handles_in v)
whole_among (value.One s) = among_self (handle_of_value (value.One s))
whole_among (value.Slice slice) = none_among (handles_in (value.Slice slice))
whole_among (value.Tuple parts) = none_among (handles_in (value.Tuple parts))
whole_among (value.List parts) = none_among (handles_in (value.List parts))
whole_among (value.Slices slices) = none_among (handles_in (value.Slices slices))

option_among : (o : Option Value) → AllAmong (handle_of_option o) (handles_in_option o)
option_among (Some v) = whole_among v
option_among None = none_among []

-- Each handle whose bytes a command reads is one of the command's handles.
reads_among : (s : Subject) (v : Verb) → AllAmong (handles_read s v) (handles_of v)
reads_among subject.Own verb.View = none_among (handles_of verb.View)
reads_among subject.Own (verb.Get key) = none_among (handles_of (verb.Get key))
reads_among subject.Own (verb.Set (value.Slice slice) item) = among_back (handle_of_value item) (handles_in_slice slice) (handles_in item) (whole_among item)
reads_among subject.Own (verb.Set (value.One s) item) = none_among (handles_of (verb.Set (value.One s) item))
reads_among subject.Own (verb.Set (value.Tuple parts) item) = none_among (handles_of (verb.Set (value.Tuple parts) item))
reads_among subject.Own (verb.Set (value.List parts) item) = none_among (handles_of (verb.Set (value.List parts) item))
reads_among subject.Own (verb.Set (value.Slices slices) item) = none_among (handles_of (verb.Set (value.Slices slices) item))
reads_among subject.Own (verb.Cast format shape) = none_among (handles_of (verb.Cast format shape))
reads_among subject.Own (verb.CastF format shape) = none_among (handles_of (verb.CastF format shape))
reads_among subject.Own (verb.ToBytes order) = none_among (handles_of (verb.ToBytes order))
reads_among subject.Own verb.Release = none_among (handles_of verb.Release)
reads_among subject.Own verb.Len = none_among (handles_of verb.Len)
reads_among subject.Own (verb.Property name) = none_among (handles_of (verb.Property name))
reads_among subject.Own verb.ToReadonly = none_among (handles_of verb.ToReadonly)
reads_among subject.Own (verb.Range from to) = none_among (handles_of (verb.Range from to))
reads_among subject.Own verb.Enter = none_among (handles_of verb.Enter)
reads_among subject.Own verb.Exit = none_among (handles_of verb.Exit)
reads_among subject.Own verb.ToContiguous = none_among (handles_of verb.ToContiguous)
reads_among subject.Own verb.ToList = none_among (handles_of verb.ToList)
reads_among subject.Own (verb.Del key) = none_among (handles_of (verb.Del key))
reads_among subject.Own (verb.Append v) = none_among (handles_of (verb.Append v))
reads_among subject.Own (verb.Extend v) = whole_among v
reads_among subject.Own (verb.Insert index v) = none_among (handles_of (verb.Insert index v))
reads_among subject.Own (verb.Pop index) = none_among (handles_of (verb.Pop index))
reads_among subject.Own (verb.Remove v) = none_among (handles_of (verb.Remove v))
reads_among subject.Own verb.Clear = none_among (handles_of verb.Clear)
reads_among subject.Own verb.Reverse = none_among (handles_of verb.Reverse)
reads_among subject.Own (verb.IAdd v) = whole_among v
reads_among subject.Own (verb.IMul count) = none_among (handles_of (verb.IMul count))
reads_among subject.Own (verb.Init options) =
    among_front (handle_of_option options.source) (handles_in_option options.source ++ handles_in_option options.encoding) (handles_in_option options.errors)
    (among_front (handle_of_option options.source) (handles_in_option options.source) (handles_in_option options.encoding) (option_among options.source))
reads_among subject.Own verb.Take = none_among (handles_of verb.Take)
reads_among subject.Own verb.Copy = none_among (handles_of verb.Copy)
reads_among subject.Own (verb.Compare op other) = whole_among other
reads_among subject.Own verb.Hash = none_among (handles_of verb.Hash)
reads_among subject.Own verb.Repr = none_among (handles_of verb.Repr)
reads_among subject.Own verb.Iter = none_among (handles_of verb.Iter)
reads_among subject.Own verb.Next = none_among (handles_of verb.Next)
reads_among subject.Own verb.LengthHint = none_among (handles_of verb.LengthHint)
reads_among subject.Own (verb.SetState state) = none_among (handles_of (verb.SetState state))
reads_among subject.Own (verb.Contains v) = whole_among v
reads_among subject.Own (verb.Hex sep group) = none_among (handles_of (verb.Hex sep group))
reads_among subject.Own (verb.Call method) = among_self (handles_of (verb.Call method))
reads_among (subject.View k) verb.View = none_among (handles_of verb.View)
reads_among (subject.View k) (verb.Get key) = none_among (handles_of (verb.Get key))
reads_among (subject.View k) (verb.Set key item) = among_back (handle_of_value item) (handles_in key) (handles_in item) (whole_among item)
reads_among (subject.View k) (verb.Cast format shape) = none_among (handles_of (verb.Cast format shape))
reads_among (subject.View k) (verb.CastF format shape) = none_among (handles_of (verb.CastF format shape))
reads_among (subject.View k) (verb.ToBytes order) = none_among (handles_of (verb.ToBytes order))
reads_among (subject.View k) verb.Release = none_among (handles_of verb.Release)
reads_among (subject.View k) verb.Len = none_among (handles_of verb.Len)
reads_among (subject.View k) (verb.Property name) = none_among (handles_of (verb.Property name))
reads_among (subject.View k) verb.ToReadonly = none_among (handles_of verb.ToReadonly)
reads_among (subject.View k) (verb.Range from to) = none_among (handles_of (verb.Range from to))
reads_among (subject.View k) verb.Enter = none_among (handles_of verb.Enter)
reads_among (subject.View k) verb.Exit = none_among (handles_of verb.Exit)
reads_among (subject.View k) verb.ToContiguous = none_among (handles_of verb.ToContiguous)
reads_among (subject.View k) verb.ToList = none_among (handles_of verb.ToList)
reads_among (subject.View k) (verb.Del key) = none_among (handles_of (verb.Del key))
reads_among (subject.View k) (verb.Append v) = none_among (handles_of (verb.Append v))
reads_among (subject.View k) (verb.Extend v) = none_among (handles_of (verb.Extend v))
reads_among (subject.View k) (verb.Insert index v) = none_among (handles_of (verb.Insert index v))
reads_among (subject.View k) (verb.Pop index) = none_among (handles_of (verb.Pop index))
reads_among (subject.View k) (verb.Remove v) = none_among (handles_of (verb.Remove v))
reads_among (subject.View k) verb.Clear = none_among (handles_of verb.Clear)
reads_among (subject.View k) verb.Reverse = none_among (handles_of verb.Reverse)
reads_among (subject.View k) (verb.IAdd v) = none_among (handles_of (verb.IAdd v))
reads_among (subject.View k) (verb.IMul count) = none_among (handles_of (verb.IMul count))
reads_among (subject.View k) (verb.Init options) = none_among (handles_of (verb.Init options))
reads_among (subject.View k) verb.Take = none_among (handles_of verb.Take)
reads_among (subject.View k) verb.Copy = none_among (handles_of verb.Copy)
reads_among (subject.View k) (verb.Compare op other) = whole_among other
reads_among (subject.View k) verb.Hash = none_among (handles_of verb.Hash)
reads_among (subject.View k) verb.Repr = none_among (handles_of verb.Repr)
reads_among (subject.View k) verb.Iter = none_among (handles_of verb.Iter)
reads_among (subject.View k) verb.Next = none_among (handles_of verb.Next)
reads_among (subject.View k) verb.LengthHint = none_among (handles_of verb.LengthHint)
reads_among (subject.View k) (verb.SetState state) = none_among (handles_of (verb.SetState state))
reads_among (subject.View k) (verb.Contains v) = none_among (handles_of (verb.Contains v))
reads_among (subject.View k) (verb.Hex sep group) = among_front (handle_of_option sep) (handles_in_option sep) (handles_in_option group) (option_among sep)
reads_among (subject.View k) (verb.Call method) = none_among (handles_of (verb.Call method))
reads_among (subject.Iter k) v = none_among (handles_of v)

-- ---- each of these handles is lent as its loan says

abbrev some_loan : Loan → Option Loan
some_loan l = Some l

pick : (b : Bool) (l m : Loan) (o : Option Loan) → (b ≡ true → l ≡ m) → (b ≡ false → o ≡ Some m) → (if b then Some l else o) ≡ Some m
pick true l m o here later = ap some_loan (here refl)
pick false l m o here later = later refl

not_first : (b c : Bool) → (b || c) ≡ true → b ≡ false → c ≡ true
not_first true c any is = absurd (true≢false is)
not_first false c any is = any

-- all loans of these handles
abbrev whole_loans : World → ℕ → List ℕ → List (ℕ × Loan)
whole_loans w i handles = map (λ h. (h, loan_for w i h)) handles

found : (w : World) (i : ℕ) (handles : List ℕ) (x : ℕ) → list_any (λ (h : ℕ). h == x) handles ≡ true → loan_of (whole_loans w i handles) x ≡ Some (loan_for w i x)
found w i [] x among = absurd (true≢false (sym among))
found w i (h ∷ hs) x among =
    pick (h == x) (loan_for w i h) (loan_for w i x) (loan_of (whole_loans w i hs) x) (λ is. ap (loan_for w i) (eqb-true h x is))
    (λ is. found w i hs x (not_first (h == x) (list_any (λ (y : ℕ). y == x) hs) among is))

-- The others are lent as they are while the exporter that steps is out of the table.
by_number : (w : World) (i : ℕ) (dest : Exporter) (n : Named) (b : Bool) → (exporter_of n == i) ≡ b
    → (if b then loan_of_own (subject_of n) else loan_of_other (slice_get (set w.exporters i dest) (exporter_of n)) (subject_of n))
    ≡ (if b then loan_of_own (subject_of n) else loan_of_other (slice_get w.exporters (exporter_of n)) (subject_of n))
by_number w i dest n true is = refl
by_number w i dest n false is =
    ap (λ (o : Option Exporter). loan_of_other o (subject_of n))
    (slice_get-set_other w.exporters i (exporter_of n) dest (λ same. true≢false (sym (eq-eqb (exporter_of n) i (sym same)) ∙ is)))

name_beside : (w : World) (i : ℕ) (dest : Exporter) (o : Option Named) → loan_of_name (record w { exporters = set w.exporters i dest }) i o ≡ loan_of_name w i o
name_beside w i dest (Some n) = by_number w i dest n (exporter_of n == i) refl
name_beside w i dest None = refl

named_alike : (w : World) (i : ℕ) (dest : Exporter) (handles : List ℕ) (x : ℕ) → list_any (λ (h : ℕ). h == x) handles ≡ true
    → named_to (record w { exporters = set w.exporters i dest }) i x ≡ names_of (whole_loans w i handles) x
named_alike w i dest handles x among =
    ap (λ (l : Loan). given_loan (Some l)) (name_beside w i dest (slice_get w.handles x)) ∙ sym (ap given_loan (found w i handles x among))

-- ---- the same handles are known, and the same is lent

all_within : (p q : ℕ → Bool) (xs : List ℕ) → ((k d : ℕ) → k < length xs → p (get_or xs k d) ≡ q (get_or xs k d)) → list_all p xs ≡ list_all q xs
all_within p q [] same = refl
all_within p q (x ∷ xs) same =
    ap₂ (λ (a b : Bool). a && b) (same 0 0 (let some : 0 < length (x ∷ xs) = omega arith in some))
    (all_within p q xs (λ k d below. same (suc k) d (let more : suc k < length (x ∷ xs) = omega (arith, below) in more)))

lents_within : (e : Exporter) (f g : ℕ → Option Loan) (xs : List ℕ) → ((k d : ℕ) → k < length xs → f (get_or xs k d) ≡ g (get_or xs k d)) → lents_by e f xs ≡ lents_by e g xs
lents_within e f g [] same = refl
lents_within e f g (x ∷ xs) same =
    ap₂ (λ (a b : List Lent). a ++ b)
    (ap (λ (l : Option Loan). lent_as x (subject_in l) (snap_in e l)) (same 0 0 (let some : 0 < length (x ∷ xs) = omega arith in some)))
    (lents_within e f g xs (λ k d below. same (suc k) d (let more : suc k < length (x ∷ xs) = omega (arith, below) in more)))

alike_among : (w : World) (i : ℕ) (dest e : Exporter) (s : Subject) (v : Verb) → AreAlike e s v (named_to (record w { exporters = set w.exporters i dest }) i) (names_of (loans_of w i v))
alike_among w i dest e s v = record {
  known = all_within (λ h. is_named e (named_to (record w { exporters = set w.exporters i dest }) i h)) (λ h. is_named e (names_of (loans_of w i v) h)) (handles_of v)
      (λ k d below. ap (is_named e) (named_alike w i dest (handles_of v) (get_or (handles_of v) k d) (among_self (handles_of v) k d below)));
  lent = lents_within e (named_to (record w { exporters = set w.exporters i dest }) i) (names_of (loans_of w i v)) (handles_read s v)
      (λ k d below. named_alike w i dest (handles_of v) (get_or (handles_read s v) k d) (reads_among s v k d below));
}

-- ---- the step

pub stepped_among : NamesAlikeDoTheSame → (w : World) (t : Target) (v : Verb) (worker dest new : Exporter) (r : LocalReply) → slice_get w.exporters t.exporter ≡ Some worker
    → estep_by worker t.subject v (named_to (record w { exporters = set w.exporters t.exporter dest }) t.exporter) ≡ (new, r)
    → local_step w t v (loans_of w t.exporter v) (slice_get w.exporters t.exporter) ≡ (record w { exporters = set (set w.exporters t.exporter dest) t.exporter new }, r)
stepped_among alike w t v worker dest new r at stepped =
    ap (local_step w t v (loans_of w t.exporter v)) at
    ∙ ap (λ (after : Exporter × LocalReply). (record w { exporters = set w.exporters t.exporter after.0 }, after.1))
    (sym (alike worker t.subject v (named_to (record w { exporters = set w.exporters t.exporter dest }) t.exporter) (names_of (loans_of w t.exporter v)) (alike_among w t.exporter dest worker t.subject v)) ∙ stepped)
    ∙ ap (λ (es : List Exporter). (record w { exporters = es }, r)) (sym (set_twice w.exporters t.exporter dest new))

pub as_before : (w : World) (i : ℕ) (worker dest new : Exporter) → slice_get w.exporters i ≡ Some worker → new ≡ worker → record w { exporters = set (set w.exporters i dest) i new } ≡ w
as_before w i worker dest new at same =
    ap (λ (es : List Exporter). record w { exporters = es }) (set_twice w.exporters i dest new ∙ ap (set w.exporters i) same ∙ set_to_itself w.exporters i worker at)

pub if_ok : {X E : Type 0} (P Q : X → Type 0) (r : Result X E) → ((x : X) → P x → Q x) → IfOk r P → IfOk r Q
if_ok P Q (Ok x) go holds = go x holds
if_ok P Q (Err e) go holds = holds

pub on_err : {X E : Type 0} (P Q : Type 0) (r : Result X E) → (P → Q) → OnErr r P → OnErr r Q
on_err P Q (Ok x) go holds = holds
on_err P Q (Err e) go holds = go holds
