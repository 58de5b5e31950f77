-- If every view of an exporter is released, nothing keeps it from an edit.
use Rattle.std.proofs.Common.{◌≡◌, ◌≢◌, ◌⊎◌, inl, inr, ℕ, zero, suc, ◌+◌, List, [], ◌∷◌, length, set, Bool, true, false, true≢false, ap, sym, ◌∙◌, refl, arith}
use Rattle.std.specs.Prelude.{◌==◌, not, cond, Option, Some, None, Ok, slice_get, count_by, if◌then◌else◌}
use Rattle.std.specs.Option.{ok_or}
use Rattle.std.proofs.lemmas.Bool.Decides.{eqb_tells}
use Rattle.std.proofs.lemmas.List.Sums.{sum_by-cons}
use Rattle.pybuf_lemmas.proofs.Lists.{set_to_itself}
use Rattle.pybuf_value.specs.declared.faults.Fault.{Fault}
use Rattle.pybuf_value.specs.declared.faults.Fault.TheVariants as fault
use Rattle.pybuf_value.specs.declared.values.Scalar.TheVariants as scalar
use Rattle.pybuf_value.specs.declared.values.Value.TheVariants as value
use Rattle.pybuf_value.specs.declared.snaps.Snap.{Snap}
use Rattle.pybuf_value.specs.Refusing.{◌>>=◌}
use Rattle.pybuf_command.specs.declared.kinds.Subject.{Subject}
use Rattle.pybuf_command.specs.declared.kinds.Subject.TheVariants as subject
use Rattle.pybuf_command.specs.declared.commands.Verb.{Verb}
use Rattle.pybuf_command.specs.declared.commands.Verb.TheVariants as verb
use Rattle.pybuf_command.specs.declared.commands.PropertyName.TheVariants as property
use Rattle.pybuf_command.specs.declared.commands.LocalReply.{LocalReply}
use Rattle.pybuf_command.specs.declared.commands.LocalReply.TheVariants as local
use Rattle.pybuf_command.specs.declared.worlds.Reply.{Reply}
use Rattle.pybuf_command.specs.declared.worlds.Reply.TheVariants as reply
use Rattle.pybuf_command.specs.declared.loans.Loan.{Loan}
use Rattle.pybuf_command.specs.declared.loans.Loan.TheVariants as loan
use Rattle.pybuf_command.specs.Loans.{loan_of}
use Rattle.pybuf_state.specs.Exporter.{Exporter, View, is_exported, exports_of, released_at}
use Rattle.pybuf_state.specs.Loans.{loan_of_snap}
use Rattle.pybuf_state.specs.Names.{loan_of_own}
use Rattle.pybuf_state.specs.Snaps.{snap_of_subject}
use Rattle.pybuf_verbs_reads.specs.Len.{count_item}
use Rattle.pybuf_exporter.specs.Step.{settled_answer, estep}
use Rattle.pybuf_exporter.specs.Laws.{AddsItself}
use Rattle.pybuf_exporter.specs.Releasing.{ReleasedViewsDontCount, ReleasedViewsStopNoEdit}
use Rattle.pybuf_world.specs.declared.named.Named.{Named}
use Rattle.pybuf_world.specs.declared.named.Named.TheVariants as named
use Rattle.pybuf_world.specs.declared.named.Target.{Target}
use Rattle.pybuf_world.specs.World.{World, exporter_of, subject_of, loan_of_other, loan_of_name, loan_for, loans_of, has_view, reply_after, target_of}
use Rattle.pybuf_world.specs.Releasing.{AddsItselfByHandle, EditsAreFree, ReleasesAreCounted, ExportsAreCounted}
use Rattle.pybuf_world.proofs.Asked.{steps_so}
use Rattle.pybuf_world.proofs.Assigning.{lent_last}
use Rattle.pybuf_world.proofs.Refusals.{copy_no_refusal}

-- ---- edits

only_refused : (w : World) (t : Target) (r : LocalReply) (f : Fault) → reply_after w t r ≡ reply.Refused f → r ≡ local.Refused f
only_refused w t (local.Refused g) f is = let same : g ≡ f = cc in ap local.Refused same
only_refused w t (local.View k) f is = absurd (cc)
only_refused w t (local.Iter k) f is = absurd (cc)
only_refused w t local.Ok f is = absurd (cc)
only_refused w t local.Itself f is = absurd (cc)
only_refused w t local.Own f is = absurd (cc)
only_refused w t (local.Item i) f is = absurd (cc)
only_refused w t (local.Items shape items) f is = absurd (cc)
only_refused w t (local.Bytes bytes) f is = absurd (cc)
only_refused w t (local.Text text) f is = absurd (cc)
only_refused w t (local.Shown text) f is = absurd (cc)
only_refused w t (local.Truth truth) f is = absurd (cc)
only_refused w t local.NotImplementedReply f is = absurd (cc)
only_refused w t (local.Numbers numbers) f is = absurd (cc)
only_refused w t (local.ByteLists lists) f is = absurd (cc)
only_refused w t local.Stop f is = absurd (cc)
only_refused w t (local.Fresh snap) f is = absurd (copy_no_refusal (has_view snap.kind) (length w.handles) f is)

-- A handle that is lent as the exporter itself names that exporter.
snap_is_other : (o : Option Snap) → loan_of_snap o ≡ loan.Own → ⊥
snap_is_other (Some snap) is = cc
snap_is_other None is = cc

other_is_other : (o : Option Exporter) (s : Subject) → loan_of_other o s ≡ loan.Own → ⊥
other_is_other (Some e) s is = snap_is_other (snap_of_subject e s) is
other_is_other None s is = cc

own_is_exporter : (n : Named) (i : ℕ) → exporter_of n ≡ i → loan_of_own (subject_of n) ≡ loan.Own → n ≡ named.Exporter i
own_is_exporter (named.Exporter j) i same is = ap named.Exporter same
own_is_exporter (named.View j k) i same is = absurd (cc)
own_is_exporter (named.Iterator j k) i same is = absurd (cc)

by_lender : (w : World) (i : ℕ) (n : Named) → ((exporter_of n == i) ≡ true) × (exporter_of n ≡ i) ⊎ ((exporter_of n == i) ≡ false) × (exporter_of n ≢ i) → loan_of_name w i (Some n) ≡ loan.Own → n ≡ named.Exporter i
by_lender w i n (inl same) is =
    own_is_exporter n i same.1 (sym (ap (λ (b : Bool). if b then loan_of_own (subject_of n) else loan_of_other (slice_get w.exporters (exporter_of n)) (subject_of n)) same.0) ∙ is)
by_lender w i n (inr other) is =
    absurd (other_is_other (slice_get w.exporters (exporter_of n)) (subject_of n)
    (sym (ap (λ (b : Bool). if b then loan_of_own (subject_of n) else loan_of_other (slice_get w.exporters (exporter_of n)) (subject_of n)) other.0) ∙ is))

abbrev some_name : Named → Option Named
some_name n = Some n

lent_as_itself : (w : World) (i : ℕ) (o : Option Named) → loan_of_name w i o ≡ loan.Own → o ≡ Some (named.Exporter i)
lent_as_itself w i (Some n) is = ap some_name (by_lender w i n (eqb_tells (exporter_of n) i) is)
lent_as_itself w i None is = absurd (cc)

abbrev some_loan : Loan → Option Loan
some_loan l = Some l

same_loan : (l m : Loan) → some_loan l ≡ some_loan m → l ≡ m
same_loan l m is = cc

itself_named : (w : World) (number h : ℕ) → loan_of (loans_of w number (verb.IAdd (value.One (scalar.Handle h)))) h ≡ Some loan.Own → slice_get w.handles h ≡ Some (named.Exporter number)
itself_named w number h is = lent_as_itself w number (slice_get w.handles h) (same_loan (loan_for w number h) loan.Own (sym (lent_last w number [] h) ∙ is))

adds_itself : (w : World) (e : Exporter) (number : ℕ) (v : Verb) → AddsItself e v (loans_of w number v) → AddsItselfByHandle w number v
adds_itself w e number v adds =
    (adds.handle, adds.added, itself_named w number adds.handle (sym (ap (λ (x : Verb). loan_of (loans_of w number x) adds.handle) adds.added) ∙ adds.itself))

pub free_edits : ReleasedViewsStopNoEdit → EditsAreFree
free_edits stop w handle number e v given there released edit is =
    let loans = loans_of w number v in
    let t = target_of handle (named.Exporter number) in
    let step = steps_so w handle v (named.Exporter number) e (estep e subject.Own v loans) given there refl in
    let refused = only_refused w t (estep e subject.Own v loans).1 fault.Buffer (sym (ap (λ (x : World × Reply). x.1) step) ∙ is) in
    adds_itself w e number v (stop e v loans released edit refused)

-- ---- releases

abbrev one_for : View → ℕ
one_for v = cond (is_exported v) 1 0

first_less : (released : Bool) (n : ℕ) → released ≡ false → cond (not released) 1 0 + n ≡ suc (cond (not true) 1 0 + n)
first_less true n is = absurd (true≢false is)
first_less false n is = omega arith

later_less : (one n m : ℕ) → n ≡ suc m → one + n ≡ suc (one + m)
later_less one n m is = omega (arith, is)

counted_less : (views : List View) (k : ℕ) (v : View) → slice_get views k ≡ Some v → v.released ≡ false → count_by is_exported views ≡ suc (count_by is_exported (set views k (record v { released = true })))
counted_less [] k v at live = absurd (cc)
counted_less (x ∷ views) zero v at live =
    let same : x ≡ v = cc in
    let here : x.released ≡ false = ap (λ (y : View). y.released) same ∙ live in
    sum_by-cons one_for x views ∙ first_less x.released (count_by is_exported views) here ∙ ap suc (sym (sum_by-cons one_for (record v { released = true }) views))
counted_less (x ∷ views) (suc k) v at live =
    let after = set views k (record v { released = true }) in
    sum_by-cons one_for x views ∙ later_less (one_for x) (count_by is_exported views) (count_by is_exported after) (counted_less views k v at live) ∙ ap suc (sym (sum_by-cons one_for x after))

released_is : (e : Exporter) (k : ℕ) (v : View) → slice_get e.views k ≡ Some v → v.released ≡ true → released_at e k v ≡ e
released_is e k v at released =
    ap (λ (views : List View). record e { views = views }) (ap (λ (b : Bool). set e.views k (record v { released = b })) (sym released) ∙ set_to_itself e.views k v at)

pub counted_releases : ReleasesAreCounted
counted_releases w handle number k v e given there view =
    let answer = ap (λ (o : Option View). settled_answer e ((ok_or o fault.UnknownName >>= λ x. Ok (released_at e k x)) >>= λ after. Ok (after, local.Ok))) view in
    record {
      stepped = steps_so w handle verb.Release (named.View number k) e (released_at e k v, local.Ok) given there answer;
      less = λ live. counted_less e.views k v view live;
      again = λ released. released_is e k v view released;
    }

-- ---- the count

pub counted_exports : ReleasedViewsDontCount → ExportsAreCounted
counted_exports count w handle number e given there = record {
  replied =
      steps_so w handle (verb.Property property.Exports) (named.Exporter number) e (e, local.Item (count_item (exports_of e))) given there refl
      ∙ ap (λ (xs : List Exporter). (record w { exporters = xs }, reply.Item (count_item (exports_of e)))) (set_to_itself w.exporters number e there);
  none = count e;
}
