-- `set` of a view by a slice, as a command on a world, assigns by value.
use Rattle.std.proofs.Common.{◌≡◌, ◌⊎◌, inl, inr, ℕ, ◌*◌, ◌<◌, List, [], ◌∷◌, ◌++◌, length, map, Bool, true, false, ap, ap₂, sym, ◌∙◌, refl, subst}
use Rattle.std.specs.Prelude.{◌≢◌, set, ◌&&◌, ◌==◌, Option, Some, None, slice_get, IfSome, if◌then◌else◌}
use Rattle.std.proofs.lemmas.Bool.{eq-eqb}
use Rattle.std.proofs.lemmas.Bool.Decides.{eqb_tells}
use Rattle.pybuf_lemmas.proofs.Lists.{element_holds}
use Rattle.pybuf_value.specs.Facts.{snap_is_there}
use Rattle.pybuf_state.specs.Facts.{own_snap}
use Rattle.pybuf_value.specs.declared.faults.Fault.{Fault}
use Rattle.pybuf_value.specs.declared.faults.Fault.TheVariants as fault
use Rattle.pybuf_value.specs.declared.values.Scalar.TheVariants as scalar
use Rattle.pybuf_value.specs.declared.values.Value.{Value}
use Rattle.pybuf_value.specs.declared.values.Value.TheVariants as value
use Rattle.pybuf_value.specs.declared.values.PySlice.{PySlice}
use Rattle.pybuf_value.specs.declared.snaps.Snap.{Snap}
use Rattle.pybuf_desc.specs.Laws.{SlicesLieApart}
use Rattle.pybuf_command.specs.declared.kinds.Subject.{Subject}
use Rattle.pybuf_command.specs.declared.kinds.Subject.TheVariants as subject
use Rattle.pybuf_command.specs.declared.commands.Verb.TheVariants as verb
use Rattle.pybuf_command.specs.declared.commands.LocalReply.{LocalReply}
use Rattle.pybuf_command.specs.declared.commands.LocalReply.TheVariants as local
use Rattle.pybuf_command.specs.declared.worlds.Reply.{Reply}
use Rattle.pybuf_command.specs.declared.worlds.Reply.TheVariants as reply
use Rattle.pybuf_command.specs.declared.loans.Loan.{Loan}
use Rattle.pybuf_command.specs.Loans.{loan_of}
use Rattle.pybuf_command.specs.Handles.{handles_in, handles_of}
use Rattle.pybuf_memoryview.specs.Fits.{fits_snap}
use Rattle.pybuf_state.specs.Exporter.{Exporter}
use Rattle.pybuf_state.specs.Fits.{fits, all_fit, SubjectsFit}
use Rattle.pybuf_state.specs.Laws.{LiveLayoutsLieApart}
use Rattle.pybuf_state.specs.Loans.{loan_of_snap, snap_in}
use Rattle.pybuf_state.specs.Names.{loan_of_own}
use Rattle.pybuf_state.specs.Sound.{IsSoundExporter}
use Rattle.pybuf_state.specs.Spaced.{IsSpaced}
use Rattle.pybuf_state.specs.Snaps.{snap_of_subject}
use Rattle.pybuf_exporter.specs.Step.{estep}
use Rattle.pybuf_exporter.specs.Assigning.{item_of_subject, item_of_loan, item_before, source_before, StepsAssignByValue, SnapsHoldTheItems}
use Rattle.pybuf_world.specs.declared.named.Named.{Named}
use Rattle.pybuf_world.specs.declared.named.Named.TheVariants as named
use Rattle.pybuf_world.specs.declared.named.Target.{Target}
use Rattle.pybuf_world.specs.World.{World, exporter_of, subject_of, snap_of_name, loan_of_other, loan_of_name, loan_for, loans_of, has_view, reply_with_copy, reply_after, world_after, step_with_loans, target_of, step_of_handle}
use Rattle.pybuf_world.specs.World as worlds
use Rattle.pybuf_world.specs.Sound.{IsSoundWorld}
use Rattle.pybuf_world.specs.Assigning.{item_of_exporter, item_of_name, item_in_world, source_in_world, LoansOfWorldsFit, IsAssignedInWorld, WorldStepsAssignByValue}

-- ---- what is lent fits

own_fits : (s : Subject) → fits (loan_of_own s) ≡ true
own_fits subject.Own = refl
own_fits (subject.View k) = refl
own_fits (subject.Iter k) = refl

snap_fits : (o : Option Snap) → IfSome o (λ snap. fits_snap snap ≡ true) → fits (loan_of_snap o) ≡ true
snap_fits None is = refl
snap_fits (Some snap) is = is

other_fits : SubjectsFit → (w : World) (m : ℕ) (o : Option Exporter) (s : Subject) → IsSoundWorld w → slice_get w.exporters m ≡ o → fits (loan_of_other o s) ≡ true
other_fits fit w m None s sound found = refl
other_fits fit w m (Some e) s sound found = snap_fits (snap_of_subject e s) (fit e s (element_holds IsSoundExporter w.exporters m e sound.exporters_are_sound found))

either_fits : (b : Bool) (own other : Loan) → fits own ≡ true → fits other ≡ true → fits (if b then own else other) ≡ true
either_fits true own other first second = first
either_fits false own other first second = second

name_fits : SubjectsFit → (w : World) (i : ℕ) (o : Option Named) → IsSoundWorld w → fits (loan_of_name w i o) ≡ true
name_fits fit w i None sound = refl
name_fits fit w i (Some n) sound =
    either_fits (exporter_of n == i) (loan_of_own (subject_of n)) (loan_of_other (slice_get w.exporters (exporter_of n)) (subject_of n)) (own_fits (subject_of n))
    (other_fits fit w (exporter_of n) (slice_get w.exporters (exporter_of n)) (subject_of n) sound refl)

each_fits : SubjectsFit → (w : World) (i : ℕ) (handles : List ℕ) → IsSoundWorld w → all_fit (map (λ handle. (handle, loan_for w i handle)) handles) ≡ true
each_fits fit w i [] sound = refl
each_fits fit w i (h ∷ handles) sound = ap₂ (λ (a b : Bool). a && b) (name_fits fit w i (slice_get w.handles h) sound) (each_fits fit w i handles sound)

pub loans_fit : SubjectsFit → LoansOfWorldsFit
loans_fit fit w i v sound = each_fits fit w i (handles_of v) sound

-- ---- items

-- The handle of a value is lent as what it names.
lent_when : (w : World) (i x h : ℕ) (rest : Option Loan) → ((x == h) ≡ true) × (x ≡ h) ⊎ ((x == h) ≡ false) × (x ≢ h) → rest ≡ Some (loan_for w i h) → (if x == h then Some (loan_for w i x) else rest) ≡ Some (loan_for w i h)
lent_when w i x h rest (inl same) is =
    ap (λ (b : Bool). if b then Some (loan_for w i x) else rest) same.0 ∙ ap (λ (n : ℕ). let lent : Option Loan = Some (loan_for w i n) in lent) same.1
lent_when w i x h rest (inr other) is = ap (λ (b : Bool). if b then Some (loan_for w i x) else rest) other.0 ∙ is

pub lent_last : (w : World) (i : ℕ) (before : List ℕ) (h : ℕ) → loan_of (map (λ handle. (handle, loan_for w i handle)) (before ++ h ∷ [])) h ≡ Some (loan_for w i h)
lent_last w i [] h = ap (λ (b : Bool). if b then Some (loan_for w i h) else None) (eq-eqb h h refl)
lent_last w i (x ∷ before) h = lent_when w i x h (loan_of (map (λ handle. (handle, loan_for w i handle)) (before ++ h ∷ [])) h) (eqb_tells x h) (lent_last w i before h)

own_items : (e : Exporter) (s : Subject) (j : ℕ) → item_of_loan e (Some (loan_of_own s)) j ≡ item_of_subject e s j
own_items e subject.Own j = refl
own_items e (subject.View k) j = refl
own_items e (subject.Iter k) j = refl

abbrev there : Snap → Option Snap
there snap = Some snap

lent_items : SnapsHoldTheItems → (e lender : Exporter) (s : Subject) (o : Option Snap) (source : Snap) (j : ℕ) → IsSoundExporter lender → snap_of_subject lender s ≡ o → snap_in e (Some (loan_of_snap o)) ≡ Some source
    → source.released ≡ false → j * source.itemsize < length source.content → item_of_loan e (Some (loan_of_snap o)) j ≡ item_of_subject lender s j
lent_items hold e lender s None source j sound is named unreleased below = absurd (cc)
lent_items hold e lender s (Some snap) source j sound is named unreleased below =
    let same : snap ≡ source = snap_is_there snap source named in
    hold lender s snap j sound is (ap (λ (x : Snap). x.released) same ∙ unreleased) (subst (λ (x : Snap). j * x.itemsize < length x.content) (sym same) below)

other_items : SnapsHoldTheItems → (w : World) (e : Exporter) (m : ℕ) (o : Option Exporter) (s : Subject) (source : Snap) (j : ℕ) → IsSoundWorld w → slice_get w.exporters m ≡ o → snap_in e (Some (loan_of_other o s)) ≡ Some source
    → source.released ≡ false → j * source.itemsize < length source.content → item_of_loan e (Some (loan_of_other o s)) j ≡ item_of_exporter o s j
other_items hold w e m None s source j sound found named unreleased below = refl
other_items hold w e m (Some lender) s source j sound found named unreleased below =
    lent_items hold e lender s (snap_of_subject lender s) source j (element_holds IsSoundExporter w.exporters m lender sound.exporters_are_sound found) refl named unreleased below

by_lender : SnapsHoldTheItems → (w : World) (e : Exporter) (i : ℕ) (n : Named) (source : Snap) (j : ℕ) → ((exporter_of n == i) ≡ true) × (exporter_of n ≡ i) ⊎ ((exporter_of n == i) ≡ false) × (exporter_of n ≢ i) → IsSoundWorld w
    → slice_get w.exporters i ≡ Some e → snap_in e (Some (loan_of_name w i (Some n))) ≡ Some source → source.released ≡ false → j * source.itemsize < length source.content
    → item_of_loan e (Some (loan_of_name w i (Some n))) j ≡ item_of_name w (Some n) j
by_lender hold w e i n source j (inl same) sound found named unreleased below =
    ap (λ (b : Bool). item_of_loan e (Some (if b then loan_of_own (subject_of n) else loan_of_other (slice_get w.exporters (exporter_of n)) (subject_of n))) j) same.0
    ∙ own_items e (subject_of n) j
    ∙ sym (ap (λ (o : Option Exporter). item_of_exporter o (subject_of n) j) (ap (slice_get w.exporters) same.1 ∙ found))
by_lender hold w e i n source j (inr other) sound found named unreleased below =
    let lent : Loan = loan_of_other (slice_get w.exporters (exporter_of n)) (subject_of n) in
    let chosen : (if exporter_of n == i then loan_of_own (subject_of n) else lent) ≡ lent = ap (λ (b : Bool). if b then loan_of_own (subject_of n) else lent) other.0 in
    ap (λ (l : Loan). item_of_loan e (Some l) j) chosen
    ∙ other_items hold w e (exporter_of n) (slice_get w.exporters (exporter_of n)) (subject_of n) source j sound refl (sym (ap (λ (l : Loan). snap_in e (Some l)) chosen) ∙ named) unreleased below

by_name : SnapsHoldTheItems → (w : World) (e : Exporter) (i : ℕ) (o : Option Named) (source : Snap) (j : ℕ) → IsSoundWorld w → slice_get w.exporters i ≡ Some e → snap_in e (Some (loan_of_name w i o)) ≡ Some source
    → source.released ≡ false → j * source.itemsize < length source.content → item_of_loan e (Some (loan_of_name w i o)) j ≡ item_of_name w o j
by_name hold w e i None source j sound found named unreleased below = refl
by_name hold w e i (Some n) source j sound found named unreleased below = by_lender hold w e i n source j (eqb_tells (exporter_of n) i) sound found named unreleased below

abbrev loans_for : World → ℕ → PySlice → Value → List (ℕ × Loan)
loans_for w i slice v = loans_of w i (verb.Set (value.Slice slice) v)

same_items : SnapsHoldTheItems → (w : World) (e : Exporter) (i : ℕ) (slice : PySlice) (v : Value) (source : Snap) (j : ℕ) → IsSoundWorld w → slice_get w.exporters i ≡ Some e → source_before e (loans_for w i slice v) v ≡ Some source
    → source.released ≡ false → j * source.itemsize < length source.content → item_before e (loans_for w i slice v) v j ≡ item_in_world w v j
same_items hold w e i slice (value.One (scalar.Bytes bytes)) source j sound found named unreleased below = refl
same_items hold w e i slice (value.One (scalar.Handle h)) source j sound found named unreleased below =
    let lent : loan_of (loans_for w i slice (value.One (scalar.Handle h))) h ≡ Some (loan_for w i h) = lent_last w i (handles_in (value.Slice slice)) h in
    ap (λ (l : Option Loan). item_of_loan e l j) lent ∙ by_name hold w e i (slice_get w.handles h) source j sound found (sym (ap (snap_in e) lent) ∙ named) unreleased below
same_items hold w e i slice (value.One scalar.None) source j sound found named unreleased below = refl
same_items hold w e i slice (value.One (scalar.Bool b)) source j sound found named unreleased below = refl
same_items hold w e i slice (value.One (scalar.Int n)) source j sound found named unreleased below = refl
same_items hold w e i slice (value.One (scalar.Text t)) source j sound found named unreleased below = refl
same_items hold w e i slice (value.One scalar.Ellipsis) source j sound found named unreleased below = refl
same_items hold w e i slice (value.Slice s) source j sound found named unreleased below = refl
same_items hold w e i slice (value.Tuple parts) source j sound found named unreleased below = refl
same_items hold w e i slice (value.List parts) source j sound found named unreleased below = refl
same_items hold w e i slice (value.Slices parts) source j sound found named unreleased below = refl

-- ---- the source

lent_snap : (e : Exporter) (o : Option Snap) → snap_in e (Some (loan_of_snap o)) ≡ o
lent_snap e None = refl
lent_snap e (Some snap) = refl

other_snap : (e : Exporter) (o : Option Exporter) (s : Subject) → snap_in e (Some (loan_of_other o s)) ≡ worlds.snap_in o s
other_snap e None s = refl
other_snap e (Some lender) s = lent_snap e (snap_of_subject lender s)

snap_by_lender : (w : World) (e : Exporter) (i : ℕ) (n : Named) → ((exporter_of n == i) ≡ true) × (exporter_of n ≡ i) ⊎ ((exporter_of n == i) ≡ false) × (exporter_of n ≢ i) → slice_get w.exporters i ≡ Some e
    → snap_in e (Some (loan_of_name w i (Some n))) ≡ snap_of_name w (Some n)
snap_by_lender w e i n (inl same) found =
    ap (λ (b : Bool). snap_in e (Some (if b then loan_of_own (subject_of n) else loan_of_other (slice_get w.exporters (exporter_of n)) (subject_of n)))) same.0
    ∙ own_snap e (subject_of n)
    ∙ sym (ap (λ (o : Option Exporter). worlds.snap_in o (subject_of n)) (ap (slice_get w.exporters) same.1 ∙ found))
snap_by_lender w e i n (inr other) found =
    ap (λ (b : Bool). snap_in e (Some (if b then loan_of_own (subject_of n) else loan_of_other (slice_get w.exporters (exporter_of n)) (subject_of n)))) other.0
    ∙ other_snap e (slice_get w.exporters (exporter_of n)) (subject_of n)

pub snap_by_name : (w : World) (e : Exporter) (i : ℕ) (o : Option Named) → slice_get w.exporters i ≡ Some e → snap_in e (Some (loan_of_name w i o)) ≡ snap_of_name w o
snap_by_name w e i None found = refl
snap_by_name w e i (Some n) found = snap_by_lender w e i n (eqb_tells (exporter_of n) i) found

same_source : (w : World) (e : Exporter) (i : ℕ) (slice : PySlice) (v : Value) → slice_get w.exporters i ≡ Some e → source_before e (loans_for w i slice v) v ≡ source_in_world w v
same_source w e i slice (value.One (scalar.Bytes bytes)) found = refl
same_source w e i slice (value.One (scalar.Handle h)) found = ap (snap_in e) (lent_last w i (handles_in (value.Slice slice)) h) ∙ snap_by_name w e i (slice_get w.handles h) found
same_source w e i slice (value.One scalar.None) found = refl
same_source w e i slice (value.One (scalar.Bool b)) found = refl
same_source w e i slice (value.One (scalar.Int n)) found = refl
same_source w e i slice (value.One (scalar.Text t)) found = refl
same_source w e i slice (value.One scalar.Ellipsis) found = refl
same_source w e i slice (value.Slice s) found = refl
same_source w e i slice (value.Tuple parts) found = refl
same_source w e i slice (value.List parts) found = refl
same_source w e i slice (value.Slices parts) found = refl

-- ---- the step

pub pair_not : (b : Bool) (n : ℕ) → reply_with_copy b n ≡ reply.Ok → ⊥
pair_not true n is = absurd (cc)
pair_not false n is = absurd (cc)

only_ok : (w : World) (t : Target) (r : LocalReply) → reply_after w t r ≡ reply.Ok → r ≡ local.Ok
only_ok w t local.Ok is = refl
only_ok w t (local.View k) is = absurd (cc)
only_ok w t (local.Iter k) is = absurd (cc)
only_ok w t local.Itself is = absurd (cc)
only_ok w t local.Own is = absurd (cc)
only_ok w t (local.Item x) is = absurd (cc)
only_ok w t (local.Items shape items) is = absurd (cc)
only_ok w t (local.Bytes bytes) is = absurd (cc)
only_ok w t (local.Text text) is = absurd (cc)
only_ok w t (local.Shown text) is = absurd (cc)
only_ok w t (local.Truth truth) is = absurd (cc)
only_ok w t local.NotImplementedReply is = absurd (cc)
only_ok w t (local.Numbers numbers) is = absurd (cc)
only_ok w t (local.ByteLists lists) is = absurd (cc)
only_ok w t local.Stop is = absurd (cc)
only_ok w t (local.Fresh snap) is = absurd (pair_not (has_view snap.kind) (length w.handles) is)
only_ok w t (local.Refused f) is = absurd (cc)

pub record IsDone (w new : World) (t : Target) (answer : Exporter × LocalReply) : Type 0 where
  pub after : Exporter
  pub replied : answer ≡ (after, local.Ok)
  pub stands : new ≡ record w { exporters = set w.exporters t.exporter after }

pub done_so : (w new : World) (t : Target) (answer : Exporter × LocalReply) → world_after w t answer ≡ (new, reply.Ok) → IsDone w new t answer
done_so w new t (after, r) is =
    let ok : r ≡ local.Ok = only_ok w t r (ap (λ (x : World × Reply). x.1) is) in
    let changed : (world_after w t (after, local.Ok)).0 ≡ new = ap (λ (x : LocalReply). (world_after w t (after, x)).0) (sym ok) ∙ ap (λ (x : World × Reply). x.0) is in
    record { after = after; replied = ap (λ (x : LocalReply). (after, x)) ok; stands = sym changed }

pub refused_not : (f : Fault) → reply.Refused f ≡ reply.Ok → ⊥
refused_not f is = absurd (cc)

by_exporter : StepsAssignByValue → SnapsHoldTheItems → LoansOfWorldsFit → LiveLayoutsLieApart → SlicesLieApart → (w new : World) (handle number k : ℕ) (slice : PySlice) (v : Value) (o : Option Exporter) → IsSoundWorld w
    → slice_get w.exporters number ≡ o → step_with_loans w (target_of handle (named.View number k)) (verb.Set (value.Slice slice) v) (loans_for w number slice v) o ≡ (new, reply.Ok)
    → IsAssignedInWorld w new number k slice v
by_exporter steps hold fit apart slices w new handle number k slice v None sound found is = absurd (refused_not fault.UnknownName (ap (λ (x : World × Reply). x.1) is))
by_exporter steps hold fit apart slices w new handle number k slice v (Some e) sound found is =
    let t = target_of handle (named.View number k) in
    let loans = loans_for w number slice v in
    let done = done_so w new t (estep e (subject.View k) (verb.Set (value.Slice slice) v) loans) is in
    let made = steps e done.after k slice v loans (element_holds IsSoundExporter w.exporters number e sound.exporters_are_sound found) (fit w number (verb.Set (value.Slice slice) v) sound) done.replied in
    let lie = slices made.layout made.parts made.moves (apart e k made.layout (element_holds IsSpaced w.exporters number e sound.items_lie_apart found) made.live) in
    record {
      before = e;
      there = found;
      after = done.after;
      stands = done.stands;
      layout = made.layout;
      live = made.live;
      parts = made.parts;
      given = made.given;
      source = made.source;
      named = sym (same_source w e number slice v found) ∙ made.named;
      unreleased = made.unreleased;
      same_size = made.same_size;
      as_many = made.as_many;
      items = λ j below. made.items lie j below ∙ same_items hold w e number slice v made.source j sound found made.named made.unreleased (made.inside j below);
      others = made.others;
      as_long = made.as_long;
      kind = made.kind;
      views = made.views;
      iterators = made.iterators;
    }

pub worlds_assign : StepsAssignByValue → SnapsHoldTheItems → LoansOfWorldsFit → LiveLayoutsLieApart → SlicesLieApart → WorldStepsAssignByValue
worlds_assign steps hold fit apart slices w new handle number k slice v sound given is =
    by_exporter steps hold fit apart slices w new handle number k slice v (slice_get w.exporters number) sound refl
    (sym (ap (step_of_handle w handle (verb.Set (value.Slice slice) v)) given) ∙ is)
