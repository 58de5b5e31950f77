-- Handles that `compare` finds equal have the same hash.
use Rattle.std.proofs.Common.{◌≡◌, ◌⊎◌, inl, inr, ℕ, ◌*◌, ◌<◌, List, [], ◌∷◌, ◌++◌, Bool, true, false, true≢false, ap, sym, ◌∙◌, refl, subst, arith}
use Rattle.std.specs.Prelude.{◌&&◌, ◌||◌, not, codes, Option, Some, None, Result, Ok, Err, slice_get, IfSome, if◌then◌else◌}
use Rattle.std.specs.List.{All}
use Rattle.std.specs.Option.{option_map, ok_or}
use Rattle.std.specs.Ordering.{is_eq}
use Rattle.std.specs.declared.cmp.Ordering.{Ordering}
use Rattle.std.specs.declared.cmp.Ordering.TheVariants.{Less, Equal, Greater}
use Rattle.std.proofs.lemmas.Bool.{eqb-true}
use Rattle.pybuf_lemmas.proofs.Booleans.{both_of}
use Rattle.pybuf_lemmas.proofs.Lists.{element_holds}
use Rattle.pybuf_equality.specs.Facts.{one_byte}
use Rattle.pybuf_state.specs.Facts.{given_snap, view_given}
use Rattle.pybuf_value.specs.declared.faults.Fault.{Fault}
use Rattle.pybuf_value.specs.declared.faults.Fault.TheVariants as fault
use Rattle.pybuf_value.specs.declared.values.Scalar.TheVariants as scalar
use Rattle.pybuf_value.specs.declared.values.Value.{Value}
use Rattle.pybuf_value.specs.declared.values.Value.TheVariants as value
use Rattle.pybuf_value.specs.declared.values.CompareOp.TheVariants as op
use Rattle.pybuf_value.specs.declared.snaps.Snap.{Snap}
use Rattle.pybuf_value.specs.declared.snaps.SnapKind.{SnapKind}
use Rattle.pybuf_value.specs.declared.snaps.SnapKind.TheVariants as snap_kind
use Rattle.pybuf_value.specs.Refusing.{◌>>=◌, unless, IfDone, done_bind}
use Rattle.pybuf_value.specs.Order.{order_of}
use Rattle.pybuf_value.specs.Snaps.{content_of_view, content_of_kind, content_of, is_iterator}
use Rattle.pybuf_value.specs.Laws.{OrdersAll}
use Rattle.pybuf_desc.specs.Layouts.{Layout, product}
use Rattle.pybuf_desc.specs.Items.{content_of_layout}
use Rattle.pybuf_command.specs.Kinds.{holds_readonly}
use Rattle.pybuf_command.specs.declared.kinds.ExporterKind.{ExporterKind}
use Rattle.pybuf_command.specs.declared.kinds.ExporterKind.TheVariants as kind
use Rattle.pybuf_command.specs.declared.kinds.Subject.{Subject}
use Rattle.pybuf_command.specs.declared.kinds.Subject.TheVariants as subject
use Rattle.pybuf_command.specs.declared.commands.Verb.TheVariants as verb
use Rattle.pybuf_command.specs.declared.commands.PropertyName.TheVariants as property
use Rattle.pybuf_command.specs.declared.commands.LocalReply.{LocalReply}
use Rattle.pybuf_command.specs.declared.commands.LocalReply.TheVariants as local
use Rattle.pybuf_command.specs.declared.worlds.Command.TheVariants as command
use Rattle.pybuf_command.specs.declared.worlds.Reply.{Reply}
use Rattle.pybuf_command.specs.declared.worlds.Reply.TheVariants as reply
use Rattle.pybuf_command.specs.declared.loans.Loan.{Loan}
use Rattle.pybuf_command.specs.declared.loans.Loan.TheVariants as loan
use Rattle.pybuf_command.specs.Handles.{handles_read}
use Rattle.pybuf_command.specs.Loans.{loan_of}
use Rattle.pybuf_memoryview.specs.Sized.{is_sized, byte_count}
use Rattle.pybuf_memoryview.specs.Fits.{fits_kind, fits_snap}
use Rattle.pybuf_equality.specs.Equality.{same_view}
use Rattle.pybuf_equality.specs.Laws.{IsByteFormat, HasByteItems, EqualByteViewsHoldTheSameBytes, FittingSnapsHaveAllItems}
use Rattle.pybuf_state.specs.Exporter.{Exporter, View, view_at, live_layout}
use Rattle.pybuf_state.specs.Keeps.{is_vector}
use Rattle.pybuf_state.specs.Fits.{SubjectsFit}
use Rattle.pybuf_state.specs.Loans.{Lent, lent_as, lents_by, names_of, snap_in, subject_in}
use Rattle.pybuf_state.specs.Snaps.{snap_kind_of, snap_of_exporter, snap_of_view, snap_of_subject}
use Rattle.pybuf_state.specs.Sound.{IsSoundExporter}
use Rattle.pybuf_verbs_reads.specs.Property.{property_of_layout}
use Rattle.pybuf_verbs_compare.specs.Compare.{has_no_order_with, bytes_compared, is_view_of_number, equals_snap, equals_other, lent_snap}
use Rattle.pybuf_exporter.specs.Step.{effect, settled_answer, estep}
use Rattle.pybuf_world.specs.declared.named.Named.{Named}
use Rattle.pybuf_world.specs.World.{World, exporter_of, subject_of, snap_of_name, snap_for, loan_for, loans_of, reply_after, world_after, target_of, wstep}
use Rattle.pybuf_world.specs.World as worlds
use Rattle.pybuf_world.specs.Sound.{IsSoundWorld}
use Rattle.pybuf_world.specs.Hashing.{ShowsByteFormat, IsHashOf, WorldEqualViewsHashAlike}
use Rattle.pybuf_world.proofs.Asked.{asked, steps_so, stepped_so, only_bytes, only_truth}
use Rattle.pybuf_world.proofs.Assigning.{lent_last, snap_by_name}

-- ---- an unreleased view

pub record IsLive (e : Exporter) (o : Option View) (layout : Layout) : Type 0 where
  pub view : View
  pub at : o ≡ Some view
  pub unreleased : view.released ≡ false
  pub same : view.layout ≡ layout

released_not : (o : Option View) (e : Exporter) (v : View) (b : Bool) (layout : Layout) → o ≡ Some v → v.released ≡ b → (unless b fault.Value >>= λ _. Ok v.layout) ≡ Ok layout → IsLive e o layout
released_not o e v true layout at was is = absurd (cc)
released_not o e v false layout at was is = let same : v.layout ≡ layout = cc in record { view = v; at = at; unreleased = was; same = same }

live_by : (e : Exporter) (o : Option View) (layout : Layout) → (ok_or o fault.UnknownName >>= λ v. (unless v.released fault.Value >>= λ _. Ok v.layout)) ≡ Ok layout → IsLive e o layout
live_by e None layout is = absurd (cc)
live_by e (Some v) layout is = released_not (Some v) e v v.released layout refl refl is

pub live_is : (e : Exporter) (k : ℕ) (layout : Layout) → live_layout e k ≡ Ok layout → IsLive e (slice_get e.views k) layout
live_is e k layout is = live_by e (slice_get e.views k) layout is

-- ---- what is hashed

-- the subject that was hashed, and what `hash` replied
record IsHashed (e : Exporter) (s : Subject) (after : Exporter × LocalReply) : Type 0 where
  snap : Snap
  lent : snap_of_subject e s ≡ Some snap
  unreleased : snap.released ≡ false
  items : is_iterator snap.kind ≡ false
  format : (snap.format ≡ codes "B") ⊎ ((estep e s (verb.Property property.Format) []).1 ≡ local.Text snap.format)
  replied : after ≡ (e, local.Bytes snap.content)

no_iterator : (k : ExporterKind) → is_iterator (snap_kind_of k) ≡ false
no_iterator kind.Bytes = refl
no_iterator kind.ByteArray = refl
no_iterator (kind.Vector r) = refl

own_hashed : (e : Exporter) (lents : List Lent) → IfDone (IsHashed e subject.Own) (effect e subject.Own verb.Hash lents)
own_hashed e lents =
    let P = IsHashed e subject.Own in
    done_bind P (unless (is_vector e.kind) fault.UnknownName) _ (λ _ _.
    done_bind P (unless (not (holds_readonly e.kind)) fault.Kind) _ (λ _ _.
    record { snap = snap_of_exporter e; lent = refl; unreleased = refl; items = no_iterator e.kind; format = inl refl; replied = refl }))

-- The bytes of an unreleased view are those of its items.
whole_content : (e : Exporter) (v : View) → v.released ≡ false → (snap_of_view e.bytes v).content ≡ content_of_layout e.bytes v.layout
whole_content e v is = ap (λ (b : Bool). if b then [] else content_of_layout e.bytes v.layout) is

view_hashed_so : (e : Exporter) (k : ℕ) (layout : Layout) → live_layout e k ≡ Ok layout → IsHashed e (subject.View k) (e, local.Bytes (content_of_layout e.bytes layout))
view_hashed_so e k layout found =
    let live = live_is e k layout found in
    let v = live.view in
    record {
      snap = snap_of_view e.bytes v;
      lent = ap (option_map (snap_of_view e.bytes)) live.at;
      unreleased = live.unreleased;
      items = refl;
      format = inr (ap (λ (r : Result Layout Fault). (settled_answer e (r >>= λ l. (property_of_layout l property.Format >>= λ answer. Ok (e, answer)))).1) found ∙ ap (λ (l : Layout). local.Text l.format) (sym live.same));
      replied = ap (λ (bytes : List ℕ). (e, local.Bytes bytes)) (sym (whole_content e v live.unreleased ∙ ap (content_of_layout e.bytes) live.same));
    }

view_hashed : (e : Exporter) (k : ℕ) (lents : List Lent) → IfDone (IsHashed e (subject.View k)) (effect e (subject.View k) verb.Hash lents)
view_hashed e k lents =
    let P = IsHashed e (subject.View k) in
    done_bind P (live_layout e k) _ (λ layout found. done_bind P (unless (not layout.readonly) fault.Value) _ (λ _ _. view_hashed_so e k layout found))

hashed : (e : Exporter) (s : Subject) (lents : List Lent) → IfDone (IsHashed e s) (effect e s verb.Hash lents)
hashed e subject.Own lents = own_hashed e lents
hashed e (subject.View k) lents = view_hashed e k lents
hashed e (subject.Iter k) lents = tt

no_bytes : (f : Fault) (bytes : List ℕ) → local.Refused f ≡ local.Bytes bytes → ⊥
no_bytes f bytes is = cc

unknown_no_bytes : (bytes : List ℕ) → reply.Refused fault.UnknownName ≡ reply.Bytes bytes → ⊥
unknown_no_bytes bytes is = cc

abbrev bytes_of_reply : LocalReply → List ℕ
bytes_of_reply (local.Bytes bytes) = bytes
bytes_of_reply _ = []

-- a handle that was hashed: what it names in the world as it is now, and which bytes that has
record HasHash (w : World) (handle : ℕ) (bytes : List ℕ) : Type 0 where
  name : Named
  given : slice_get w.handles handle ≡ Some name
  exporter : Exporter
  there : slice_get w.exporters (exporter_of name) ≡ Some exporter
  snap : Snap
  lent : snap_of_subject exporter (subject_of name) ≡ Some snap
  unreleased : snap.released ≡ false
  items : is_iterator snap.kind ≡ false
  format : (snap.format ≡ codes "B") ⊎ ((wstep w (command.Do handle (verb.Property property.Format))).1 ≡ reply.Text snap.format)
  content : snap.content ≡ bytes

shown_format : (w : World) (handle : ℕ) (n : Named) (e : Exporter) (format : List ℕ) → slice_get w.handles handle ≡ Some n → slice_get w.exporters (exporter_of n) ≡ Some e
    → (format ≡ codes "B") ⊎ ((estep e (subject_of n) (verb.Property property.Format) []).1 ≡ local.Text format) → (format ≡ codes "B") ⊎ ((wstep w (command.Do handle (verb.Property property.Format))).1 ≡ reply.Text format)
shown_format w handle n e format given there (inl is) = inl is
shown_format w handle n e format given there (inr is) =
    let step = steps_so w handle (verb.Property property.Format) n e (estep e (subject_of n) (verb.Property property.Format) []) given there refl in
    inr (ap (λ (x : World × Reply). x.1) step ∙ ap (reply_after w (target_of handle n)) is)

has_hash : (w : World) (handle : ℕ) (bytes : List ℕ) → IsHashOf w handle bytes → HasHash w handle bytes
has_hash w handle bytes hash =
    let by = asked w handle verb.Hash (wstep w (command.Do handle verb.Hash)) (λ is. unknown_no_bytes bytes (is ∙ hash.replied)) refl in
    let e = by.exporter in
    let n = by.name in
    let local_reply = (estep e (subject_of n) verb.Hash []).1 in
    let is : local_reply ≡ local.Bytes bytes = only_bytes w (target_of handle n) local_reply bytes (ap (λ (x : World × Reply). x.1) by.stepped ∙ hash.replied) in
    let done = stepped_so (IsHashed e (subject_of n)) e (subject_of n) verb.Hash [] (local.Bytes bytes) (hashed e (subject_of n) (lents_by e (names_of []) (handles_read (subject_of n) verb.Hash))) is (λ f refused. no_bytes f bytes refused) in
    record {
      name = n;
      given = by.given;
      exporter = e;
      there = by.there;
      snap = done.snap;
      lent = done.lent;
      unreleased = done.unreleased;
      items = done.items;
      format = shown_format w handle n e done.snap.format by.given by.there done.format;
      content = ap bytes_of_reply (sym (ap (λ (x : Exporter × LocalReply). x.1) done.replied) ∙ is);
    }

-- ---- items of one byte

shown_byte_format : (w : World) (handle : ℕ) (format : List ℕ) → ShowsByteFormat w handle → (format ≡ codes "B") ⊎ ((wstep w (command.Do handle (verb.Property property.Format))).1 ≡ reply.Text format) → IsByteFormat format
shown_byte_format w handle format shows (inl is) = inr (inl is)
shown_byte_format w handle format shows (inr is) = shows format is

not_iterator : (k : SnapKind) → is_iterator k ≡ false → k ≡ snap_kind.Iterator → ⊥
not_iterator k items is = true≢false (sym (ap is_iterator is) ∙ items)

if_some : (P : Snap → Type 0) (o : Option Snap) (snap : Snap) → IfSome o P → o ≡ Some snap → P snap
if_some P (Some x) snap all is = let same : x ≡ snap = cc in subst P same all
if_some P None snap all is = absurd (cc)

byte_items : SubjectsFit → FittingSnapsHaveAllItems → (w : World) (handle : ℕ) (bytes : List ℕ) → IsSoundWorld w → ShowsByteFormat w handle → All (λ b. b < 256) bytes → (h : HasHash w handle bytes) → HasByteItems h.snap
byte_items fit whole w handle bytes sound shows small h =
    let n = h.name in
    let fits : fits_snap h.snap ≡ true =
    if_some (λ (x : Snap). fits_snap x ≡ true) (snap_of_subject h.exporter (subject_of n)) h.snap
    (fit h.exporter (subject_of n) (element_holds IsSoundExporter w.exporters (exporter_of n) h.exporter sound.exporters_are_sound h.there)) h.lent in
    let format = shown_byte_format w handle h.snap.format shows h.format in
    let one = one_byte h.snap.format h.snap.itemsize format (both_of (fits_kind h.snap.kind h.snap) (is_sized h.snap.format h.snap.itemsize) fits).1 in
    let all = whole h.snap fits h.unreleased (not_iterator h.snap.kind h.items) in
    record {
      format = format;
      size = one;
      filled = all.filled ∙ ap (λ (size : ℕ). byte_count size h.snap.shape) one ∙ (let same : 1 * product h.snap.shape ≡ product h.snap.shape = omega arith in same);
      bytes = subst (All (λ b. b < 256)) (sym h.content) small;
    }

-- ---- what the other handle is lent as

abbrev loans_for : World → ℕ → ℕ → List (ℕ × Loan)
loans_for w i other = loans_of w i (verb.Compare op.Eq (value.One (scalar.Handle other)))

other_lent : (w : World) (e : Exporter) (i other : ℕ) → slice_get w.exporters i ≡ Some e → snap_in e (names_of (loans_for w i other) other) ≡ snap_for w other
other_lent w e i other found =
    given_snap e (loan_of (loans_for w i other) other)
    ∙ ap (snap_in e) (lent_last w i [] other) ∙ snap_by_name w e i (slice_get w.handles other) found

hashed_snap : (w : World) (other : ℕ) (bytes : List ℕ) (h : HasHash w other bytes) → snap_for w other ≡ Some h.snap
hashed_snap w other bytes h =
    ap (snap_of_name w) h.given ∙ ap (λ (o : Option Exporter). worlds.snap_in o (subject_of h.name)) h.there ∙ h.lent

abbrev lent_other : ℕ → Option Loan → Snap → List Lent
lent_other other o snap = record { handle = other; subject = subject_in o; snap = snap } ∷ []

-- For the other handle, just what it names is lent.
all_lent : (w : World) (e : Exporter) (i other : ℕ) (snap : Snap) → slice_get w.exporters i ≡ Some e → snap_for w other ≡ Some snap
    → lents_by e (names_of (loans_for w i other)) (other ∷ []) ≡ lent_other other (names_of (loans_for w i other) other) snap
all_lent w e i other snap found is =
    ap (λ (o : Option Snap). lent_as other (subject_in (names_of (loans_for w i other) other)) o ++ []) (other_lent w e i other found ∙ is)

-- ---- what is compared

record IsComparedView (e : Exporter) (k : ℕ) (other : Value) (lents : List Lent) (after : Exporter × LocalReply) : Type 0 where
  view : View
  at : view_at e k ≡ Ok view
  replied : after ≡ (e, local.Truth (equals_other k (snap_of_view e.bytes view) other lents))

record IsComparedString (e : Exporter) (other : Option Snap) (after : Exporter × LocalReply) : Type 0 where
  replied : after ≡ (e, bytes_compared e.bytes op.Eq (content_of other))

abbrev other_value : ℕ → Value
other_value other = value.One (scalar.Handle other)

view_compared : (e : Exporter) (k other : ℕ) (lents : List Lent) → IfDone (IsComparedView e k (other_value other) lents) (effect e (subject.View k) (verb.Compare op.Eq (other_value other)) lents)
view_compared e k other lents = done_bind (IsComparedView e k (other_value other) lents) (view_at e k) _ (λ view found. record { view = view; at = found; replied = refl })

own_compared : (e : Exporter) (other : ℕ) (lents : List Lent) → IfDone (IsComparedString e (lent_snap lents)) (effect e subject.Own (verb.Compare op.Eq (other_value other)) lents)
own_compared e other lents =
    let P = IsComparedString e (lent_snap lents) in
    done_bind P (unless (is_vector e.kind) fault.UnknownName) _ (λ _ _.
    done_bind P (unless (has_no_order_with e.kind op.Eq (lent_snap lents)) fault.Kind) _ (λ _ _. record { replied = refl }))

no_truth : (f : Fault) (truth : Bool) → local.Refused f ≡ local.Truth truth → ⊥
no_truth f truth is = cc

abbrev truth_of_reply : LocalReply → Bool
truth_of_reply (local.Truth truth) = truth
truth_of_reply _ = false

-- ---- equal strings

equal_order : (o : Ordering) → is_eq o ≡ true → o ≡ Equal
equal_order Equal is = refl
equal_order Less is = absurd (true≢false (sym is))
equal_order Greater is = absurd (true≢false (sym is))

of_view : (released contiguous : Bool) (content bytes : List ℕ) → content_of_view released contiguous content ≡ Ok bytes → content ≡ bytes
of_view true contiguous content bytes is = absurd (cc)
of_view false true content bytes is = cc
of_view false false content bytes is = absurd (cc)

of_kind : (k : SnapKind) (released contiguous : Bool) (content bytes : List ℕ) → content_of_kind k released contiguous content ≡ Ok bytes → content ≡ bytes
of_kind snap_kind.Iterator released contiguous content bytes is = absurd (cc)
of_kind snap_kind.View released contiguous content bytes is = of_view released contiguous content bytes is
of_kind snap_kind.Bytes released contiguous content bytes is = cc
of_kind snap_kind.ByteArray released contiguous content bytes is = cc
of_kind snap_kind.Vector released contiguous content bytes is = cc

same_string : OrdersAll order_of → (bytes content : List ℕ) (r : Result (List ℕ) Fault) → ((other : List ℕ) → r ≡ Ok other → content ≡ other) → bytes_compared bytes op.Eq r ≡ local.Truth true → bytes ≡ content
same_string orders bytes content (Ok other) same is =
    (orders.equal bytes other).0 (equal_order (order_of bytes other) (ap truth_of_reply is)) ∙ sym (same other refl)
same_string orders bytes content (Err f) same is = absurd (cc)

-- ---- equal views

either : (b c : Bool) → (b || c) ≡ true → (b ≡ true) ⊎ (c ≡ true)
either true c is = inl refl
either false c is = inr is

-- The view itself is lent.
very_view : (e : Exporter) (k : ℕ) (o : Option Loan) → is_view_of_number k (subject_in o) ≡ true → snap_in e o ≡ snap_of_subject e (subject.View k)
very_view e k (Some (loan.View j)) is = ap (λ (n : ℕ). snap_of_subject e (subject.View n)) (eqb-true j k is)
very_view e k (Some loan.Own) is = absurd (true≢false (sym is))
very_view e k (Some (loan.Iter j)) is = absurd (true≢false (sym is))
very_view e k (Some (loan.Other snap)) is = absurd (true≢false (sym is))
very_view e k (Some loan.Missing) is = absurd (true≢false (sym is))
very_view e k None is = absurd (true≢false (sym is))

equal_snaps : (left right : Snap) → equals_snap left (Some right) ≡ true → same_view left right ≡ true
equal_snaps left right is = (both_of (not (is_iterator right.kind)) (same_view left right) (both_of (not (left.released || right.released)) (not (is_iterator right.kind) && same_view left right) is).1).1

same_there : (left right : Snap) (o : Option Snap) → o ≡ Some left → o ≡ Some right → left ≡ right
same_there left right o first second = cc

by_answer : EqualByteViewsHoldTheSameBytes → (e : Exporter) (k : ℕ) (o : Option Loan) (mine left right : Snap) → mine ≡ left → HasByteItems mine → HasByteItems right → snap_of_subject e (subject.View k) ≡ Some left
    → snap_in e o ≡ Some right → (is_view_of_number k (subject_in o) ≡ true) ⊎ (equals_snap left (Some right) ≡ true) → mine.content ≡ right.content
by_answer alike e k o mine left right own items other_items found lent (inl very) =
    ap (λ (x : Snap). x.content) (own ∙ same_there left right (snap_of_subject e (subject.View k)) found (sym (very_view e k o very) ∙ lent))
by_answer alike e k o mine left right own items other_items found lent (inr equal) =
    alike mine right items other_items (ap (λ (x : Snap). same_view x right) own ∙ equal_snaps left right equal)

same_content : SubjectsFit → FittingSnapsHaveAllItems → EqualByteViewsHoldTheSameBytes → OrdersAll order_of → (w : World) (handle other : ℕ) (bytes other_bytes : List ℕ) → IsSoundWorld w → ShowsByteFormat w handle → ShowsByteFormat w other
    → All (λ b. b < 256) bytes → All (λ b. b < 256) other_bytes → (h : HasHash w handle bytes) (g : HasHash w other other_bytes) (s : Subject) → subject_of h.name ≡ s
    → (estep h.exporter s (verb.Compare op.Eq (other_value other)) (loans_for w (exporter_of h.name) other)).1 ≡ local.Truth true → h.snap.content ≡ g.snap.content
same_content fit whole alike orders w handle other bytes other_bytes sound shows other_shows small other_small h g subject.Own named is =
    let e = h.exporter in
    let i = exporter_of h.name in
    let lents = lents_by e (names_of (loans_for w i other)) (other ∷ []) in
    let lent = all_lent w e i other g.snap h.there (hashed_snap w other other_bytes g) in
    let done = stepped_so (IsComparedString e (lent_snap lents)) e subject.Own (verb.Compare op.Eq (other_value other)) (loans_for w i other) (local.Truth true) (own_compared e other lents) is (λ f refused. no_truth f true refused) in
    let answer : bytes_compared e.bytes op.Eq (content_of (Some g.snap)) ≡ local.Truth true =
    ap (λ (ls : List Lent). bytes_compared e.bytes op.Eq (content_of (lent_snap ls))) (sym lent) ∙ sym (ap (λ (x : Exporter × LocalReply). x.1) done.replied) ∙ is in
    let own : h.snap ≡ snap_of_exporter e = same_there h.snap (snap_of_exporter e) (snap_of_subject e (subject_of h.name)) h.lent (ap (snap_of_subject e) named) in
    ap (λ (x : Snap). x.content) own
    ∙ same_string orders e.bytes g.snap.content (content_of (Some g.snap)) (λ bs same. of_kind g.snap.kind g.snap.released g.snap.contiguous g.snap.content bs same) answer
same_content fit whole alike orders w handle other bytes other_bytes sound shows other_shows small other_small h g (subject.View k) named is =
    let e = h.exporter in
    let i = exporter_of h.name in
    let o = names_of (loans_for w i other) other in
    let lents = lents_by e (names_of (loans_for w i other)) (other ∷ []) in
    let lent = all_lent w e i other g.snap h.there (hashed_snap w other other_bytes g) in
    let done = stepped_so (IsComparedView e k (other_value other) lents) e (subject.View k) (verb.Compare op.Eq (other_value other)) (loans_for w i other) (local.Truth true) (view_compared e k other lents) is (λ f refused. no_truth f true refused) in
    let left = snap_of_view e.bytes done.view in
    let answer : (is_view_of_number k (subject_in o) || equals_snap left (Some g.snap)) ≡ true =
    ap (equals_other k left (other_value other)) (sym lent) ∙ ap truth_of_reply (sym (ap (λ (x : Exporter × LocalReply). x.1) done.replied) ∙ is) in
    let found : snap_of_subject e (subject.View k) ≡ Some left = ap (option_map (snap_of_view e.bytes)) (view_given (slice_get e.views k) done.view done.at) in
    let own : h.snap ≡ left = same_there h.snap left (snap_of_subject e (subject_of h.name)) h.lent (ap (snap_of_subject e) named ∙ found) in
    by_answer alike e k o h.snap left g.snap own (byte_items fit whole w handle bytes sound shows small h) (byte_items fit whole w other other_bytes sound other_shows other_small g) found
    (other_lent w e i other h.there ∙ hashed_snap w other other_bytes g) (either (is_view_of_number k (subject_in o)) (equals_snap left (Some g.snap)) answer)
same_content fit whole alike orders w handle other bytes other_bytes sound shows other_shows small other_small h g (subject.Iter k) named is =
    absurd (stepped_so (λ _. ⊥) h.exporter (subject.Iter k) (verb.Compare op.Eq (other_value other)) (loans_for w (exporter_of h.name) other) (local.Truth true) tt is (λ f refused. no_truth f true refused))

pub equal_hash : SubjectsFit → FittingSnapsHaveAllItems → EqualByteViewsHoldTheSameBytes → OrdersAll order_of → WorldEqualViewsHashAlike
equal_hash fit whole alike orders w handle other bytes other_bytes sound shows other_shows hash other_hash is =
    let h = has_hash w handle bytes hash in
    let g = has_hash w other other_bytes other_hash in
    let v = verb.Compare op.Eq (other_value other) in
    let answer = estep h.exporter (subject_of h.name) v (loans_for w (exporter_of h.name) other) in
    let step = steps_so w handle v h.name h.exporter answer h.given h.there refl in
    let replied : answer.1 ≡ local.Truth true = only_truth w (target_of handle h.name) answer.1 true (sym (ap (λ (x : World × Reply). x.1) step) ∙ is) in
    sym h.content
    ∙ same_content fit whole alike orders w handle other bytes other_bytes sound shows other_shows hash.small other_hash.small h g (subject_of h.name) refl replied
    ∙ g.content
