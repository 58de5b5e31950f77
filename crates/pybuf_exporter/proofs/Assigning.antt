-- `set` of a view by a slice, as a whole command, assigns by value.
use Rattle.std.proofs.Common.{◌≡◌, ℕ, ◌*◌, ◌<◌, List, [], ◌∷◌, ◌++◌, length, Bool, true, false, ap, sym, ◌∙◌, refl, subst, arith}
use Rattle.std.specs.Prelude.{All, ◌==◌, Option, Some, None, Result, Ok, slice_get, IfSome, if◌then◌else◌}
use Rattle.std.specs.Option.{ok_or, option_map}
use Rattle.std.proofs.lemmas.List.Elements.{All-nil, All-cons, All-append}
use Rattle.std.proofs.Math.Nat.{lt_of_mul-lt-mul_left}
use Rattle.pybuf_lemmas.proofs.Booleans.{both_of}
use Rattle.pybuf_exporter.specs.Facts.{answered_ok}
use Rattle.pybuf_value.specs.Facts.{there, snap_is_there}
use Rattle.pybuf_state.specs.Facts.{given_snap}
use Rattle.pybuf_memoryview.specs.Facts.{sized_some}
use Rattle.pybuf_value.specs.declared.faults.Fault.{Fault}
use Rattle.pybuf_value.specs.declared.faults.Fault.TheVariants as fault
use Rattle.pybuf_value.specs.declared.values.Scalar.TheVariants as scalar
use Rattle.pybuf_value.specs.declared.values.Value.{Value}
use Rattle.pybuf_value.specs.declared.values.Value.TheVariants as value
use Rattle.pybuf_value.specs.declared.snaps.Snap.{Snap}
use Rattle.pybuf_value.specs.Refusing.{◌>>=◌, unless, IfDone}
use Rattle.pybuf_value.specs.Snaps.{is_iterator}
use Rattle.pybuf_struct.specs.Formats.{format_of}
use Rattle.pybuf_desc.specs.Items.{bytes_at, content_of_layout}
use Rattle.pybuf_desc.specs.Slices.{slice_of}
use Rattle.pybuf_command.specs.declared.kinds.ExporterKind.TheVariants as kind
use Rattle.pybuf_command.specs.declared.kinds.Subject.{Subject}
use Rattle.pybuf_command.specs.declared.kinds.Subject.TheVariants as subject
use Rattle.pybuf_command.specs.declared.commands.Verb.TheVariants as verb
use Rattle.pybuf_command.specs.declared.commands.LocalReply.{LocalReply}
use Rattle.pybuf_command.specs.declared.commands.LocalReply.TheVariants as reply
use Rattle.pybuf_command.specs.declared.loans.Loan.{Loan}
use Rattle.pybuf_command.specs.declared.loans.Loan.TheVariants as loan
use Rattle.pybuf_command.specs.Loans.{loan_of}
use Rattle.pybuf_command.specs.Handles.{handles_of, handle_of_value}
use Rattle.pybuf_memoryview.specs.Fits.{fits_snap}
use Rattle.pybuf_memoryview.specs.Laws.{ContentsAreWhole}
use Rattle.pybuf_memoryview.specs.Snaps.{snap_of_layout}
use Rattle.pybuf_state.specs.Exporter.{Exporter, View, Iterator, new_exporter, live_layout}
use Rattle.pybuf_state.specs.Fits.{fits, all_fit, SubjectsFit}
use Rattle.pybuf_state.specs.Keeps.{IsCarriedOut}
use Rattle.pybuf_state.specs.Laws.{LiveLayoutsAreSound}
use Rattle.pybuf_state.specs.Live.{layout_in}
use Rattle.pybuf_state.specs.Loans.{Lent, are_named, given_loan, names_of, lent_as, subject_in, snap_in, lents_by}
use Rattle.pybuf_state.specs.Snaps.{snap_of_exporter, snap_of_view, iterator_snap}
use Rattle.pybuf_state.specs.Sound.{IsSoundExporter}
use Rattle.pybuf_verbs_writes.specs.Assign.{lent_source, source_in, assign_of_view}
use Rattle.pybuf_verbs_writes.specs.Laws.{AssignIsSafe, AssignmentsAreByValue, ContentsHoldTheItems}
use Rattle.pybuf_exporter.specs.Assigning.{item_in, item_of_subject, item_of_snap, item_of_loan, item_before, source_before, StepsAssignByValue, SnapsHoldTheItems}

-- ---- the effect

abbrev okay : Exporter × LocalReply → Result (Exporter × LocalReply) Fault
okay after = Ok after

-- ---- what is lent fits

abbrev Fits : Lent → Type 0
Fits l = fits_snap l.snap ≡ true

abbrev LoanFits : Loan → Type 0
LoanFits l = fits l ≡ true

abbrev SnapFits : Snap → Type 0
SnapFits snap = fits_snap snap ≡ true

first_or_rest : (b : Bool) (l : Loan) (rest : Option Loan) → LoanFits l → IfSome rest LoanFits → IfSome (if b then Some l else rest) LoanFits
first_or_rest true l rest first others = first
first_or_rest false l rest first others = others

loan_fits : (loans : List (ℕ × Loan)) (h : ℕ) → all_fit loans ≡ true → IfSome (loan_of loans h) LoanFits
loan_fits [] h is = tt
loan_fits (pair ∷ loans) h is =
    let both = both_of (fits pair.1) (all_fit loans) is in first_or_rest (pair.0 == h) pair.1 (loan_of loans h) both.0 (loan_fits loans h both.1)

snap_fits : SubjectsFit → (e : Exporter) (l : Option Loan) → IsSoundExporter e → IfSome l LoanFits → IfSome (snap_in e (given_loan l)) SnapFits
snap_fits fit e None sound is = tt
snap_fits fit e (Some loan.Own) sound is = fit e subject.Own sound
snap_fits fit e (Some (loan.View k)) sound is = fit e (subject.View k) sound
snap_fits fit e (Some (loan.Iter k)) sound is = fit e (subject.Iter k) sound
snap_fits fit e (Some (loan.Other snap)) sound is = is
snap_fits fit e (Some loan.Missing) sound is = tt

lent_fits : (h : ℕ) (s : Option Subject) (o : Option Snap) → IfSome o SnapFits → All Fits (lent_as h s o)
lent_fits h s None is = All-nil Fits
lent_fits h s (Some snap) is = All-cons Fits (record { handle = h; subject = s; snap = snap }) [] is (All-nil Fits)

lents_fit : SubjectsFit → (e : Exporter) (loans : List (ℕ × Loan)) (handles : List ℕ) → IsSoundExporter e → all_fit loans ≡ true → All Fits (lents_by e (names_of loans) handles)
lents_fit fit e loans [] sound is = All-nil Fits
lents_fit fit e loans (h ∷ handles) sound is =
    All-append Fits (lent_as h (subject_in (names_of loans h)) (snap_in e (names_of loans h))) (lents_by e (names_of loans) handles)
    (lent_fits h (subject_in (names_of loans h)) (snap_in e (names_of loans h)) (snap_fits fit e (loan_of loans h) sound (loan_fits loans h is)))
    (lents_fit fit e loans handles sound is)

-- ---- the source

checked : (b : Bool) (snap source : Snap) → (unless b fault.Kind >>= λ _. Ok snap) ≡ Ok source → snap ≡ source
checked true snap source is = absurd (cc)
checked false snap source is = cc

from_lent : (h : ℕ) (s : Option Subject) (o : Option Snap) (source : Snap) → lent_source (lent_as h s o ++ []) ≡ Ok source → o ≡ Some source
from_lent h s None source is = absurd (cc)
from_lent h s (Some snap) source is = ap there (checked (is_iterator snap.kind) snap source is)

okay_source : (snap source : Snap) → (let done : Result Snap Fault = Ok snap in done) ≡ Ok source → snap ≡ source
okay_source snap source is = cc

source_is : (e : Exporter) (loans : List (ℕ × Loan)) (v : Value) (source : Snap) → source_in v (lents_by e (names_of loans) (handle_of_value v)) ≡ Ok source → source_before e loans v ≡ Some source
source_is e loans (value.One (scalar.Bytes bytes)) source is = ap there (okay_source (snap_of_exporter (new_exporter kind.Bytes bytes)) source is)
source_is e loans (value.One (scalar.Handle h)) source is =
    sym (given_snap e (loan_of loans h)) ∙ from_lent h (subject_in (names_of loans h)) (snap_in e (names_of loans h)) source is
source_is e loans (value.One scalar.None) source is = absurd (cc)
source_is e loans (value.One (scalar.Bool b)) source is = absurd (cc)
source_is e loans (value.One (scalar.Int n)) source is = absurd (cc)
source_is e loans (value.One (scalar.Text t)) source is = absurd (cc)
source_is e loans (value.One scalar.Ellipsis) source is = absurd (cc)
source_is e loans (value.Slice s) source is = absurd (cc)
source_is e loans (value.Tuple parts) source is = absurd (cc)
source_is e loans (value.List parts) source is = absurd (cc)
source_is e loans (value.Slices parts) source is = absurd (cc)

-- ---- its items

byte_of_whole : (bytes : List ℕ) (j : ℕ) → bytes_at bytes 1 (j * 1) ≡ bytes_at bytes 1 j
byte_of_whole bytes j = let one : j * 1 ≡ j = omega arith in ap (bytes_at bytes 1) one

own_items : (e : Exporter) (snap : Snap) (j : ℕ) → snap_of_exporter e ≡ snap → item_of_snap snap j ≡ bytes_at e.bytes 1 j
own_items e snap j is = ap (λ (s : Snap). item_of_snap s j) (sym is) ∙ byte_of_whole e.bytes j

live_so : (e : Exporter) (k : ℕ) (v : View) → slice_get e.views k ≡ Some v → v.released ≡ false → live_layout e k ≡ Ok v.layout
live_so e k v given live =
    ap (λ (o : Option View). ok_or o fault.UnknownName >>= λ w. unless w.released fault.Value >>= λ _. Ok w.layout) given ∙ ap (λ (b : Bool). unless b fault.Value >>= λ _. Ok v.layout) live

view_items : LiveLayoutsAreSound → ContentsAreWhole → ContentsHoldTheItems → (e : Exporter) (k : ℕ) (o : Option View) (snap : Snap) (j : ℕ) → slice_get e.views k ≡ o → option_map (snap_of_view e.bytes) o ≡ Some snap
    → IsSoundExporter e → snap.released ≡ false → j * snap.itemsize < length snap.content → item_of_snap snap j ≡ item_of_subject e (subject.View k) j
view_items live whole hold e k None snap j given is sound unreleased below = absurd (cc)
view_items live whole hold e k (Some v) snap j given is sound unreleased below =
    let same : snap_of_view e.bytes v ≡ snap = snap_is_there (snap_of_view e.bytes v) snap is in
    let free : v.released ≡ false = ap (λ (s : Snap). s.released) same ∙ unreleased in
    let lies = (live e k v.layout sound (live_so e k v given free)).inside in
    let shown : snap ≡ snap_of_layout e.bytes v.layout false = sym same ∙ ap (snap_of_layout e.bytes v.layout) free in
    let size : snap.itemsize ≡ v.layout.itemsize = ap (λ (s : Snap). s.itemsize) shown in
    let content : snap.content ≡ content_of_layout e.bytes v.layout = ap (λ (s : Snap). s.content) shown in
    let long : length snap.content ≡ v.layout.itemsize * length v.layout.starts = ap length content ∙ whole e.bytes v.layout lies in
    let less : v.layout.itemsize * j < v.layout.itemsize * length v.layout.starts =
    subst (λ (m : ℕ). v.layout.itemsize * j < m) long (subst (λ (m : ℕ). m < length snap.content) (ap (λ (m : ℕ). j * m) size ∙ (let turned : j * v.layout.itemsize ≡ v.layout.itemsize * j = grind arith in turned)) below) in
    ap (λ (s : Snap). item_of_snap s j) shown ∙ hold e.bytes v.layout j lies (lt_of_mul-lt-mul_left v.layout.itemsize less)
    ∙ sym (ap (λ (o : Option View). item_in e.bytes (layout_in o) j) given)

iterator_items : (e : Exporter) (k : ℕ) (o : Option Iterator) (snap : Snap) (j : ℕ) → option_map (λ it. iterator_snap) o ≡ Some snap → j * snap.itemsize < length snap.content → item_of_snap snap j ≡ []
iterator_items e k None snap j is below = absurd (cc)
iterator_items e k (Some it) snap j is below =
    let same : iterator_snap ≡ snap = snap_is_there iterator_snap snap is in
    let none : length snap.content ≡ 0 = ap (λ (s : Snap). length s.content) (sym same) in
    absurd (omega (arith, none, below))

pub snaps_hold : LiveLayoutsAreSound → ContentsAreWhole → ContentsHoldTheItems → SnapsHoldTheItems
snaps_hold live whole hold e subject.Own snap j sound is unreleased below = own_items e snap j (snap_is_there (snap_of_exporter e) snap is)
snaps_hold live whole hold e (subject.View k) snap j sound is unreleased below = view_items live whole hold e k (slice_get e.views k) snap j refl is sound unreleased below
snaps_hold live whole hold e (subject.Iter k) snap j sound is unreleased below = iterator_items e k (slice_get e.iterators k) snap j is below

loan_items : SnapsHoldTheItems → (e : Exporter) (l : Option Loan) (source : Snap) (j : ℕ) → IsSoundExporter e → snap_in e l ≡ Some source → source.released ≡ false → j * source.itemsize < length source.content
    → item_of_snap source j ≡ item_of_loan e l j
loan_items hold e None source j sound is unreleased below = absurd (cc)
loan_items hold e (Some loan.Own) source j sound is unreleased below = hold e subject.Own source j sound is unreleased below
loan_items hold e (Some (loan.View k)) source j sound is unreleased below = hold e (subject.View k) source j sound is unreleased below
loan_items hold e (Some (loan.Iter k)) source j sound is unreleased below = hold e (subject.Iter k) source j sound is unreleased below
loan_items hold e (Some (loan.Other snap)) source j sound is unreleased below = ap (λ (s : Snap). item_of_snap s j) (sym (snap_is_there snap source is))
loan_items hold e (Some loan.Missing) source j sound is unreleased below = absurd (cc)

source_items : SnapsHoldTheItems → (e : Exporter) (loans : List (ℕ × Loan)) (v : Value) (source : Snap) (j : ℕ) → IsSoundExporter e → source_before e loans v ≡ Some source → source.released ≡ false
    → j * source.itemsize < length source.content → item_of_snap source j ≡ item_before e loans v j
source_items hold e loans (value.One (scalar.Bytes bytes)) source j sound is unreleased below = own_items (new_exporter kind.Bytes bytes) source j (snap_is_there (snap_of_exporter (new_exporter kind.Bytes bytes)) source is)
source_items hold e loans (value.One (scalar.Handle h)) source j sound is unreleased below = loan_items hold e (loan_of loans h) source j sound is unreleased below
source_items hold e loans (value.One scalar.None) source j sound is unreleased below = absurd (cc)
source_items hold e loans (value.One (scalar.Bool b)) source j sound is unreleased below = absurd (cc)
source_items hold e loans (value.One (scalar.Int n)) source j sound is unreleased below = absurd (cc)
source_items hold e loans (value.One (scalar.Text t)) source j sound is unreleased below = absurd (cc)
source_items hold e loans (value.One scalar.Ellipsis) source j sound is unreleased below = absurd (cc)
source_items hold e loans (value.Slice s) source j sound is unreleased below = absurd (cc)
source_items hold e loans (value.Tuple parts) source j sound is unreleased below = absurd (cc)
source_items hold e loans (value.List parts) source j sound is unreleased below = absurd (cc)
source_items hold e loans (value.Slices parts) source j sound is unreleased below = absurd (cc)

-- ---- the law

within : (j n size : ℕ) → 0 < size → j < n → j * size < size * n
within j n size some below = grind (arith, some, below)

pub steps_assign : AssignmentsAreByValue → AssignIsSafe → SubjectsFit → LiveLayoutsAreSound → SnapsHoldTheItems → StepsAssignByValue
steps_assign by_value safe fit live hold e new k slice v loans sound loans_fit is =
    let lents = lents_by e (names_of loans) (handle_of_value v) in
    let effect : assign_of_view e k slice v lents ≡ okay (new, reply.Ok) = answered_ok e new (are_named e (names_of loans) (handles_of (verb.Set (value.Slice slice) v))) (assign_of_view e k slice v lents) is in
    let made = by_value e new k slice v lents reply.Ok sound (lents_fit fit e loans (handle_of_value v) sound loans_fit) effect in
    let carried : IsCarriedOut e (new, reply.Ok) = subst (λ (r : Result (Exporter × LocalReply) Fault). IfDone (IsCarriedOut e) r) effect (safe e k slice v lents) in
    let keeps = carried.keeps sound in
    let done = made.done in
    let named : source_before e loans v ≡ Some made.source = source_is e loans v made.source made.named in
    let layout = made.layout in
    let starts = (slice_of layout made.parts).starts in
    let some : 0 < layout.itemsize = sized_some layout.itemsize (format_of layout.format) (live e k layout sound made.live).formed.sized in
    let size : made.source.itemsize ≡ layout.itemsize = done.same_size in
    let reach : (j : ℕ) → j < length starts → j * made.source.itemsize < length made.source.content = λ j below.
    subst (λ (m : ℕ). j * made.source.itemsize < m) (sym done.as_many) (subst (λ (m : ℕ). j * m < layout.itemsize * length starts) (sym size) (within j (length starts) layout.itemsize some below)) in
    record {
      layout = layout;
      live = made.live;
      parts = made.parts;
      given = made.given;
      moves = made.moves;
      source = made.source;
      named = named;
      unreleased = made.unreleased;
      same_size = done.same_size;
      as_many = done.as_many;
      inside = reach;
      items = λ apart j below.
          done.items apart j below ∙ sym (ap (λ (m : ℕ). bytes_at made.source.content m (j * m)) size) ∙ source_items hold e loans v made.source j sound named made.unreleased (reach j below);
      others = done.others;
      as_long = done.as_long;
      kind = keeps.kind;
      views = done.views;
      iterators = keeps.iterators;
    }
