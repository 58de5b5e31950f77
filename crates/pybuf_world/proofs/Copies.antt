-- If a copy was made, it is an exporter of its own. A reply that is a pair of handles tells that one was made.
use Rattle.std.proofs.Common.{◌≡◌, ℕ, ◌+◌, ◌<◌, Bool, true, false, true≢false, List, [], ◌∷◌, ◌++◌, length, set, ap, ap₂, sym, ◌∙◌, refl, subst, arith}
use Rattle.std.specs.Prelude.{Option, Some, None, Result, Ok, Err, slice_get, if◌then◌else◌}
use Rattle.std.proofs.lemmas.List.{length-append, length-set}
use Rattle.pybuf_lemmas.proofs.Lists.{get-left, set_to_itself, element_holds}
use Rattle.pybuf_value.specs.declared.faults.Fault.{Fault}
use Rattle.pybuf_value.specs.declared.faults.Fault.TheVariants as fault
use Rattle.pybuf_value.specs.declared.snaps.Snap.{Snap}
use Rattle.pybuf_command.specs.declared.kinds.ExporterKind.{ExporterKind}
use Rattle.pybuf_command.specs.declared.kinds.Subject.{Subject}
use Rattle.pybuf_command.specs.declared.kinds.Subject.TheVariants as subject
use Rattle.pybuf_command.specs.declared.commands.Verb.{Verb}
use Rattle.pybuf_command.specs.declared.commands.LocalReply.{LocalReply}
use Rattle.pybuf_command.specs.declared.commands.LocalReply.TheVariants as local
use Rattle.pybuf_command.specs.declared.loans.Loan.{Loan}
use Rattle.pybuf_state.specs.Exporter.{Exporter}
use Rattle.pybuf_state.specs.Snaps.{snap_kind_of}
use Rattle.pybuf_state.specs.Fresh.{IsCopyOf, is_readonly_subject, made_of}
use Rattle.pybuf_state.specs.Sound.{IsSoundExporter}
use Rattle.pybuf_state.specs.Laws.{CopiesAreFaithful}
use Rattle.pybuf_exporter.specs.Step.{estep}
use Rattle.pybuf_exporter.specs.Laws.{FreshRepliesAreCopies}
use Rattle.pybuf_world.specs.declared.named.Named.{Named}
use Rattle.pybuf_world.specs.declared.named.Named.TheVariants as named
use Rattle.pybuf_world.specs.declared.named.Target.{Target}
use Rattle.pybuf_command.specs.declared.worlds.Command.TheVariants as command
use Rattle.pybuf_command.specs.declared.worlds.Reply.TheVariants as reply
use Rattle.pybuf_command.specs.Handles.{handles_of_options}
use Rattle.pybuf_world.specs.World.{World, bytes_of_new, world_with_bytes, are_given, loans_of, has_view, handles_with_copy, reply_with_copy, reply_after, world_after, step_with_loans, target_of, step_of_handle}
use Rattle.pybuf_world.specs.Sound.{IsSoundWorld}
use Rattle.pybuf_world.specs.Laws.{IsCopyMade, IsViewedCopyMade, CopiesAreExportersOfTheirOwn, UnviewedCopiesAreExportersOfTheirOwn}
use Rattle.pybuf_world.proofs.Lists.{slice_get-push}

first_named : (handles : List Named) (x y : Named) → slice_get ((handles ++ x ∷ []) ++ y ∷ []) (length handles) ≡ Some x
first_named handles x y =
    let more : length (handles ++ x ∷ []) ≡ length handles + 1 = length-append handles (x ∷ []) in
    get-left (handles ++ x ∷ []) (y ∷ []) (length handles) (omega (arith, more)) ∙ slice_get-push handles x

second_named : (handles : List Named) (x y : Named) → slice_get ((handles ++ x ∷ []) ++ y ∷ []) (length handles + 1) ≡ Some y
second_named handles x y =
    ap (slice_get ((handles ++ x ∷ []) ++ y ∷ [])) (sym (length-append handles (x ∷ []))) ∙ slice_get-push (handles ++ x ∷ []) y

-- The first handle names the exporter, and a second names its view.
copy_named : (viewed : Bool) (n : ℕ) (handles : List Named) → slice_get (handles_with_copy viewed n handles) (length handles) ≡ Some (named.Exporter n)
copy_named true n handles = first_named handles (named.Exporter n) (named.View n 0)
copy_named false n handles = slice_get-push handles (named.Exporter n)

by_pair : (viewed : Bool) (n next x y : ℕ) (handles : List Named) → next ≡ length handles → reply_with_copy viewed next ≡ reply.Pair x y
    → (viewed ≡ true) × (next ≡ x) × (slice_get (handles_with_copy viewed n handles) y ≡ Some (named.View n 0))
by_pair true n next x y handles is paired =
    let at_x : next ≡ x = cc in
    let at_y : next + 1 ≡ y = cc in
    let second : length handles + 1 ≡ y = omega (arith, is, at_y) in
    (refl, at_x, ap (slice_get ((handles ++ named.Exporter n ∷ []) ++ named.View n 0 ∷ [])) (sym second) ∙ second_named handles (named.Exporter n) (named.View n 0))
by_pair false n next x y handles is paired = absurd (cc)

by_handle : (viewed : Bool) (next x : ℕ) → reply_with_copy viewed next ≡ reply.Handle x → (viewed ≡ false) × (next ≡ x)
by_handle true next x replied = absurd (cc)
by_handle false next x replied = let same : next ≡ x = cc in (refl, same)

-- A copy that has a view is one of a view, and any other is one of a bytearray.
of_view : (e : Exporter) (s : Subject) (snap : Snap) → IsCopyOf e s snap → has_view snap.kind ≡ true → (k : ℕ) × (s ≡ subject.View k)
of_view e subject.Own snap copied viewed =
    let none : has_view snap.kind ≡ false = ap (λ (x : Snap). has_view x.kind) copied.1 ∙ ap (λ (k : ExporterKind). has_view (snap_kind_of k)) copied.0 in
    absurd (true≢false (sym viewed ∙ none))
of_view e (subject.View k) snap copied viewed = (k, refl)
of_view e (subject.Iter k) snap copied viewed = absurd copied

of_own : (e : Exporter) (s : Subject) (snap : Snap) → IsCopyOf e s snap → has_view snap.kind ≡ false → s ≡ subject.Own
of_own e subject.Own snap copied unviewed = refl
of_own e (subject.View k) snap copied unviewed =
    let some : has_view snap.kind ≡ true = ap (λ (x : Snap). has_view x.kind) copied.2 in absurd (true≢false (sym some ∙ unviewed))
of_own e (subject.Iter k) snap copied unviewed = absurd copied

-- A copy is an exporter behind the others, and its handle names it.
copy_made : FreshRepliesAreCopies → CopiesAreFaithful → (w : World) (t : Target) (v : Verb) (loans : List (ℕ × Loan)) (e : Exporter) (snap : Snap) (x : ℕ)
    → slice_get w.exporters t.exporter ≡ Some e → IsSoundExporter e → (estep e t.subject v loans).1 ≡ local.Fresh snap → length w.handles ≡ x
    → IsCopyMade w (world_after w t ((estep e t.subject v loans).0, local.Fresh snap)).0 t.subject x
copy_made copies faithful w t v loans e snap x found sound is at_x =
    let copied = copies e t.subject v loans snap is in
    record {
      number = t.exporter;
      copied = e;
      made = made_of (is_readonly_subject e t.subject) snap;
      there = found;
      behind = ap₂ (λ (es : List Exporter) (n : Exporter). es ++ made_of (is_readonly_subject n t.subject) snap ∷ [])
          (ap (set w.exporters t.exporter) copied.0 ∙ set_to_itself w.exporters t.exporter e found) copied.0;
      exporter_named = ap (slice_get (handles_with_copy (has_view snap.kind) (length w.exporters) w.handles)) (sym at_x) ∙ copy_named (has_view snap.kind) (length w.exporters) w.handles;
      holds = (faithful e t.subject snap sound copied.1).1;
    }

-- ---- a pair of handles

made_by_reply : FreshRepliesAreCopies → CopiesAreFaithful → (w : World) (t : Target) (v : Verb) (loans : List (ℕ × Loan)) (e : Exporter) (r : LocalReply) (x y : ℕ)
    → slice_get w.exporters t.exporter ≡ Some e → IsSoundExporter e → (estep e t.subject v loans).1 ≡ r → reply_after w t r ≡ reply.Pair x y
    → IsViewedCopyMade w (world_after w t ((estep e t.subject v loans).0, r)).0 x y
made_by_reply copies faithful w t v loans e (local.Fresh snap) x y found sound is paired =
    let named = by_pair (has_view snap.kind) (length w.exporters) (length w.handles) x y w.handles refl paired in
    let view = of_view e t.subject snap (copies e t.subject v loans snap is).1 named.0 in
    record {
      number = view.0;
      made = subst (λ (s : Subject). IsCopyMade w (world_after w t ((estep e t.subject v loans).0, local.Fresh snap)).0 s x) view.1 (copy_made copies faithful w t v loans e snap x found sound is named.1);
      view_named = named.2;
    }
made_by_reply copies faithful w t v loans e (local.View k) x y found sound is paired = absurd (cc)
made_by_reply copies faithful w t v loans e (local.Iter k) x y found sound is paired = absurd (cc)
made_by_reply copies faithful w t v loans e local.Ok x y found sound is paired = absurd (cc)
made_by_reply copies faithful w t v loans e local.Itself x y found sound is paired = absurd (cc)
made_by_reply copies faithful w t v loans e local.Own x y found sound is paired = absurd (cc)
made_by_reply copies faithful w t v loans e (local.Item i) x y found sound is paired = absurd (cc)
made_by_reply copies faithful w t v loans e (local.Items shape items) x y found sound is paired = absurd (cc)
made_by_reply copies faithful w t v loans e (local.Bytes bytes) x y found sound is paired = absurd (cc)
made_by_reply copies faithful w t v loans e (local.Text text) x y found sound is paired = absurd (cc)
made_by_reply copies faithful w t v loans e (local.Shown text) x y found sound is paired = absurd (cc)
made_by_reply copies faithful w t v loans e (local.Truth truth) x y found sound is paired = absurd (cc)
made_by_reply copies faithful w t v loans e local.NotImplementedReply x y found sound is paired = absurd (cc)
made_by_reply copies faithful w t v loans e local.Stop x y found sound is paired = absurd (cc)
made_by_reply copies faithful w t v loans e (local.Numbers numbers) x y found sound is paired = absurd (cc)
made_by_reply copies faithful w t v loans e (local.ByteLists lists) x y found sound is paired = absurd (cc)
made_by_reply copies faithful w t v loans e (local.Refused f) x y found sound is paired = absurd (cc)

loans_made : FreshRepliesAreCopies → CopiesAreFaithful → (w : World) (t : Target) (v : Verb) (loans : List (ℕ × Loan)) (o : Option Exporter) (x y : ℕ) → slice_get w.exporters t.exporter ≡ o → IsSoundWorld w
    → (step_with_loans w t v loans o).1 ≡ reply.Pair x y → IsViewedCopyMade w (step_with_loans w t v loans o).0 x y
loans_made copies faithful w t v loans (Some e) x y found sound paired =
    made_by_reply copies faithful w t v loans e (estep e t.subject v loans).1 x y found (element_holds IsSoundExporter w.exporters t.exporter e sound.exporters_are_sound found) refl paired
loans_made copies faithful w t v loans None x y found sound paired = absurd (cc)

handle_made : FreshRepliesAreCopies → CopiesAreFaithful → (w : World) (handle : ℕ) (v : Verb) (o : Option Named) (x y : ℕ) → IsSoundWorld w
    → (step_of_handle w handle v o).1 ≡ reply.Pair x y → IsViewedCopyMade w (step_of_handle w handle v o).0 x y
handle_made copies faithful w handle v (Some name) x y sound paired =
    let t = target_of handle name in loans_made copies faithful w t v (loans_of w t.exporter v) (slice_get w.exporters t.exporter) x y refl sound paired
handle_made copies faithful w handle v None x y sound paired = absurd (cc)

bytes_made : (w : World) (k : ExporterKind) (r : Result (List ℕ) Fault) (x y : ℕ) → (world_with_bytes w k r).1 ≡ reply.Pair x y → IsViewedCopyMade w (world_with_bytes w k r).0 x y
bytes_made w k (Ok bytes) x y paired = absurd (cc)
bytes_made w k (Err f) x y paired = absurd (cc)

given_made : (w : World) (given : Bool) (k : ExporterKind) (r : Result (List ℕ) Fault) (x y : ℕ) → (if given then world_with_bytes w k r else (w, reply.Refused fault.UnknownName)).1 ≡ reply.Pair x y
    → IsViewedCopyMade w (if given then world_with_bytes w k r else (w, reply.Refused fault.UnknownName)).0 x y
given_made w true k r x y paired = bytes_made w k r x y paired
given_made w false k r x y paired = absurd (cc)

pub own_exporters : FreshRepliesAreCopies → CopiesAreFaithful → CopiesAreExportersOfTheirOwn
own_exporters copies faithful w (command.New k options) x y sound paired =
    given_made w (are_given w (handles_of_options options)) k (bytes_of_new w options) x y paired
own_exporters copies faithful w (command.Do handle v) x y sound paired = handle_made copies faithful w handle v (slice_get w.handles handle) x y sound paired

-- ---- one handle

none_more : (xs : List Exporter) (i : ℕ) (e : Exporter) → length xs < length (set xs i e) → ⊥
none_more xs i e more = let same : length (set xs i e) ≡ length xs = length-set xs i e in omega (arith, more, same)

one_by_reply : FreshRepliesAreCopies → CopiesAreFaithful → (w : World) (t : Target) (v : Verb) (loans : List (ℕ × Loan)) (e : Exporter) (r : LocalReply) (x : ℕ)
    → slice_get w.exporters t.exporter ≡ Some e → IsSoundExporter e → (estep e t.subject v loans).1 ≡ r → reply_after w t r ≡ reply.Handle x
    → length w.exporters < length (world_after w t ((estep e t.subject v loans).0, r)).0.exporters → IsCopyMade w (world_after w t ((estep e t.subject v loans).0, r)).0 subject.Own x
one_by_reply copies faithful w t v loans e (local.Fresh snap) x found sound is replied more =
    let one = by_handle (has_view snap.kind) (length w.handles) x replied in
    subst (λ (s : Subject). IsCopyMade w (world_after w t ((estep e t.subject v loans).0, local.Fresh snap)).0 s x) (of_own e t.subject snap (copies e t.subject v loans snap is).1 one.0)
    (copy_made copies faithful w t v loans e snap x found sound is one.1)
one_by_reply copies faithful w t v loans e (local.View k) x found sound is replied more = absurd (none_more w.exporters t.exporter (estep e t.subject v loans).0 more)
one_by_reply copies faithful w t v loans e (local.Iter k) x found sound is replied more = absurd (none_more w.exporters t.exporter (estep e t.subject v loans).0 more)
one_by_reply copies faithful w t v loans e local.Ok x found sound is replied more = absurd (none_more w.exporters t.exporter (estep e t.subject v loans).0 more)
one_by_reply copies faithful w t v loans e local.Itself x found sound is replied more = absurd (none_more w.exporters t.exporter (estep e t.subject v loans).0 more)
one_by_reply copies faithful w t v loans e local.Own x found sound is replied more = absurd (none_more w.exporters t.exporter (estep e t.subject v loans).0 more)
one_by_reply copies faithful w t v loans e (local.Item i) x found sound is replied more = absurd (none_more w.exporters t.exporter (estep e t.subject v loans).0 more)
one_by_reply copies faithful w t v loans e (local.Items shape items) x found sound is replied more = absurd (none_more w.exporters t.exporter (estep e t.subject v loans).0 more)
one_by_reply copies faithful w t v loans e (local.Bytes bytes) x found sound is replied more = absurd (none_more w.exporters t.exporter (estep e t.subject v loans).0 more)
one_by_reply copies faithful w t v loans e (local.Text text) x found sound is replied more = absurd (none_more w.exporters t.exporter (estep e t.subject v loans).0 more)
one_by_reply copies faithful w t v loans e (local.Shown text) x found sound is replied more = absurd (none_more w.exporters t.exporter (estep e t.subject v loans).0 more)
one_by_reply copies faithful w t v loans e (local.Truth truth) x found sound is replied more = absurd (none_more w.exporters t.exporter (estep e t.subject v loans).0 more)
one_by_reply copies faithful w t v loans e local.NotImplementedReply x found sound is replied more = absurd (none_more w.exporters t.exporter (estep e t.subject v loans).0 more)
one_by_reply copies faithful w t v loans e local.Stop x found sound is replied more = absurd (none_more w.exporters t.exporter (estep e t.subject v loans).0 more)
one_by_reply copies faithful w t v loans e (local.Numbers numbers) x found sound is replied more = absurd (none_more w.exporters t.exporter (estep e t.subject v loans).0 more)
one_by_reply copies faithful w t v loans e (local.ByteLists lists) x found sound is replied more = absurd (none_more w.exporters t.exporter (estep e t.subject v loans).0 more)
one_by_reply copies faithful w t v loans e (local.Refused f) x found sound is replied more = absurd (none_more w.exporters t.exporter (estep e t.subject v loans).0 more)

loans_made_one : FreshRepliesAreCopies → CopiesAreFaithful → (w : World) (t : Target) (v : Verb) (loans : List (ℕ × Loan)) (o : Option Exporter) (x : ℕ) → slice_get w.exporters t.exporter ≡ o → IsSoundWorld w
    → (step_with_loans w t v loans o).1 ≡ reply.Handle x → length w.exporters < length (step_with_loans w t v loans o).0.exporters → IsCopyMade w (step_with_loans w t v loans o).0 subject.Own x
loans_made_one copies faithful w t v loans (Some e) x found sound replied more =
    one_by_reply copies faithful w t v loans e (estep e t.subject v loans).1 x found (element_holds IsSoundExporter w.exporters t.exporter e sound.exporters_are_sound found) refl replied more
loans_made_one copies faithful w t v loans None x found sound replied more = absurd (cc)

handle_made_one : FreshRepliesAreCopies → CopiesAreFaithful → (w : World) (handle : ℕ) (v : Verb) (o : Option Named) (x : ℕ) → IsSoundWorld w
    → (step_of_handle w handle v o).1 ≡ reply.Handle x → length w.exporters < length (step_of_handle w handle v o).0.exporters → IsCopyMade w (step_of_handle w handle v o).0 subject.Own x
handle_made_one copies faithful w handle v (Some name) x sound replied more =
    let t = target_of handle name in loans_made_one copies faithful w t v (loans_of w t.exporter v) (slice_get w.exporters t.exporter) x refl sound replied more
handle_made_one copies faithful w handle v None x sound replied more = absurd (cc)

pub own_unviewed_exporters : FreshRepliesAreCopies → CopiesAreFaithful → UnviewedCopiesAreExportersOfTheirOwn
own_unviewed_exporters copies faithful w handle v x sound replied more = handle_made_one copies faithful w handle v (slice_get w.handles handle) x sound replied more
