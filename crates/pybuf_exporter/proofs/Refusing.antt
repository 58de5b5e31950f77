-- Edits that ask for another length are refused while a view is unreleased.
use Rattle.std.proofs.Common.{◌≡◌, ◌⊎◌, inl, inr, ℕ, List, [], ◌∷◌, ◌++◌, Bool, true, false, true≢false, ap, sym, ◌∙◌, refl, subst}
use Rattle.std.specs.Prelude.{◌≢◌, ◌==◌, ◌&&◌, Option, Some, None, Result, Ok, Err, slice_get, if◌then◌else◌}
use Rattle.std.specs.Option.{option_map}
use Rattle.std.proofs.lemmas.Bool.{eq-eqb}
use Rattle.pybuf_value.specs.declared.faults.Fault.{Fault}
use Rattle.pybuf_value.specs.declared.faults.Fault.TheVariants as fault
use Rattle.pybuf_value.specs.declared.values.Scalar.TheVariants as scalar
use Rattle.pybuf_value.specs.declared.values.Value.{Value}
use Rattle.pybuf_value.specs.declared.values.Value.TheVariants as value
use Rattle.pybuf_value.specs.declared.snaps.Snap.{Snap}
use Rattle.pybuf_value.specs.Refusing.{◌>>=◌, unless, IfDone}
use Rattle.pybuf_value.specs.Snaps.{content_of_kind, content_of}
use Rattle.pybuf_command.specs.declared.kinds.ExporterKind.{ExporterKind}
use Rattle.pybuf_command.specs.declared.kinds.ExporterKind.TheVariants as kind
use Rattle.pybuf_command.specs.declared.kinds.Subject.{Subject}
use Rattle.pybuf_command.specs.declared.kinds.Subject.TheVariants as subject
use Rattle.pybuf_command.specs.declared.commands.Verb.{Verb}
use Rattle.pybuf_command.specs.declared.commands.Verb.TheVariants as verb
use Rattle.pybuf_command.specs.declared.commands.LocalReply.{LocalReply}
use Rattle.pybuf_command.specs.declared.commands.LocalReply.TheVariants as reply
use Rattle.pybuf_command.specs.declared.loans.Loan.{Loan}
use Rattle.pybuf_command.specs.declared.loans.Loan.TheVariants as loan
use Rattle.pybuf_command.specs.Loans.{loan_of}
use Rattle.pybuf_command.specs.Kinds.{of_byte_array}
use Rattle.pybuf_command.specs.Handles.{handles_of, handle_of_value, handles_read}
use Rattle.pybuf_state.specs.Exporter.{Exporter}
use Rattle.pybuf_state.specs.Laws.{ReadingKeeps}
use Rattle.pybuf_state.specs.Loans.{Lent, is_named, are_known, given_loan, names_of, lent_as, subject_in, snap_in, lents_by, lent_for_each}
use Rattle.pybuf_state.specs.Resizing.{resizable}
use Rattle.pybuf_state.specs.Snaps.{snap_kind_of, snap_of_exporter, snap_of_view, iterator_snap}
use Rattle.pybuf_verbs_edits.specs.Common.{with_bytes, is_own, is_itself}
use Rattle.pybuf_verbs_edits.specs.Growing.{added, iadd_of_own}
use Rattle.pybuf_verbs_edits.specs.Edits.{edit_of_own, is_edit}
use Rattle.pybuf_verbs_edits.specs.Asking.{asks}
use Rattle.pybuf_verbs_edits.specs.Laws.{IsAsked, EditsAskBeforeTheyResize, IsAddedToItself, OnlyAddingItselfIsRefusedEarlier}
use Rattle.pybuf_exporter.specs.Step.{effect_on_own, answer_of, settled_answer, estep}
use Rattle.pybuf_exporter.specs.Effects.{EffectsAreSafe}
use Rattle.pybuf_exporter.specs.Laws.{AddsItself, IsRefusedWhileExported, ResizingIsRefusedWhileExported, AddingItselfIsRefused, OnlyByteArraysAreAddedTo}
use Rattle.pybuf_exporter.proofs.Every.{IsReplyTo, IsStep, answered_step}

-- The effect of an edit is that edit.
pub effect_is_edit : (e : Exporter) (v : Verb) (lents : List Lent) → is_edit v ≡ true → effect_on_own e v lents ≡ edit_of_own e v lents
effect_is_edit e (verb.Append v) lents is = refl
effect_is_edit e (verb.Extend v) lents is = refl
effect_is_edit e (verb.Insert index v) lents is = refl
effect_is_edit e (verb.Pop index) lents is = refl
effect_is_edit e (verb.Remove v) lents is = refl
effect_is_edit e verb.Clear lents is = refl
effect_is_edit e verb.Reverse lents is = refl
effect_is_edit e (verb.Del key) lents is = refl
effect_is_edit e (verb.IAdd v) lents is = refl
effect_is_edit e (verb.IMul count) lents is = refl
effect_is_edit e (verb.Init options) lents is = refl
effect_is_edit e verb.Take lents is = refl
effect_is_edit e verb.Copy lents is = refl
effect_is_edit e (verb.Set (value.Slice slice) v) lents is = refl
effect_is_edit e (verb.Set (value.One s) v) lents is = absurd (true≢false (sym is))
effect_is_edit e (verb.Set (value.Tuple parts) v) lents is = absurd (true≢false (sym is))
effect_is_edit e (verb.Set (value.List parts) v) lents is = absurd (true≢false (sym is))
effect_is_edit e (verb.Set (value.Slices slices) v) lents is = absurd (true≢false (sym is))
effect_is_edit e verb.View lents is = absurd (true≢false (sym is))
effect_is_edit e (verb.Range from to) lents is = absurd (true≢false (sym is))
effect_is_edit e (verb.Get key) lents is = absurd (true≢false (sym is))
effect_is_edit e (verb.Cast format shape) lents is = absurd (true≢false (sym is))
effect_is_edit e (verb.CastF format shape) lents is = absurd (true≢false (sym is))
effect_is_edit e (verb.ToBytes order) lents is = absurd (true≢false (sym is))
effect_is_edit e verb.Release lents is = absurd (true≢false (sym is))
effect_is_edit e verb.Enter lents is = absurd (true≢false (sym is))
effect_is_edit e verb.Exit lents is = absurd (true≢false (sym is))
effect_is_edit e verb.ToContiguous lents is = absurd (true≢false (sym is))
effect_is_edit e verb.ToList lents is = absurd (true≢false (sym is))
effect_is_edit e verb.Len lents is = absurd (true≢false (sym is))
effect_is_edit e (verb.Property name) lents is = absurd (true≢false (sym is))
effect_is_edit e verb.ToReadonly lents is = absurd (true≢false (sym is))
effect_is_edit e (verb.Compare op other) lents is = absurd (true≢false (sym is))
effect_is_edit e verb.Hash lents is = absurd (true≢false (sym is))
effect_is_edit e verb.Repr lents is = absurd (true≢false (sym is))
effect_is_edit e verb.Iter lents is = absurd (true≢false (sym is))
effect_is_edit e verb.Next lents is = absurd (true≢false (sym is))
effect_is_edit e verb.LengthHint lents is = absurd (true≢false (sym is))
effect_is_edit e (verb.SetState state) lents is = absurd (true≢false (sym is))
effect_is_edit e (verb.Contains v) lents is = absurd (true≢false (sym is))
effect_is_edit e (verb.Hex sep group) lents is = absurd (true≢false (sym is))
effect_is_edit e (verb.Call method) lents is = absurd (true≢false (sym is))

-- If the effect is refused with a fault, the reply is that refusal.
refused_by : (e : Exporter) (v : Verb) (r : Result (Exporter × LocalReply) Fault) (f : Fault) → IfDone (IsStep e subject.Own v) r → (settled_answer e r).1 ≡ reply.Refused f → r ≡ Err f
refused_by e v (Ok after) f step is = absurd (subst (IsReplyTo e subject.Own after.0) is step.replies)
refused_by e v (Err g) f step is = ap (λ (x : Fault). let gone : Result (Exporter × LocalReply) Fault = Err x in gone) (let same : g ≡ f = cc in same)

-- ---- an exporter that is added to itself

-- The first loan for a handle counts.
first_named : (h : ℕ) (b : Bool) → (if h == h then b else false) ≡ b
first_named h b = ap (λ (same : Bool). if same then b else false) (eq-eqb h h refl)

paired_first : (h : ℕ) (snap : Snap) → (if h == h then Some snap else None) ≡ Some snap
paired_first h snap = ap (λ (same : Bool). if same then Some snap else None) (eq-eqb h h refl)

-- what an exporter lends of itself
abbrev own_lent : Exporter → ℕ → Lent
own_lent e h = record { handle = h; subject = Some subject.Own; snap = snap_of_exporter e }

no_other : (h : ℕ) (s : Subject) → is_own (Some s) ≡ false → (o : Option Snap) → is_itself (value.One (scalar.Handle h)) (lent_as h (Some s) o ++ []) ≡ true → ⊥
no_other h s differs None is = true≢false (sym is)
no_other h s differs (Some snap) is = true≢false (sym is ∙ first_named h (is_own (Some s)) ∙ differs)

either : {A B C : Type 0} → (B → C) → A ⊎ B → A ⊎ C
either f (inl a) = inl a
either f (inr b) = inr (f b)

-- Only a loan of the exporter itself is lent as the exporter itself.
lent_own : (e : Exporter) (h : ℕ) (l : Option Loan) → is_itself (value.One (scalar.Handle h)) (lent_as h (subject_in (given_loan l)) (snap_in e (given_loan l)) ++ []) ≡ true → l ≡ Some loan.Own
lent_own e h None is = absurd (true≢false (sym is))
lent_own e h (Some loan.Own) is = refl
lent_own e h (Some (loan.View k)) is = absurd (no_other h (subject.View k) refl (option_map (snap_of_view e.bytes) (slice_get e.views k)) is)
lent_own e h (Some (loan.Iter k)) is = absurd (no_other h (subject.Iter k) refl (option_map (λ it. iterator_snap) (slice_get e.iterators k)) is)
lent_own e h (Some (loan.Other snap)) is = absurd (true≢false (sym (sym (first_named h false) ∙ is)))
lent_own e h (Some loan.Missing) is = absurd (true≢false (sym is))

by_source : (e : Exporter) (loans : List (ℕ × Loan)) (source : Value) → is_itself source (lents_by e (names_of loans) (handle_of_value source)) ≡ true → (h : ℕ) × (source ≡ value.One (scalar.Handle h)) × (loan_of loans h ≡ Some loan.Own)
by_source e loans (value.One (scalar.Handle h)) is = (h, refl, lent_own e h (loan_of loans h) is)
by_source e loans (value.One scalar.None) is = absurd (true≢false (sym is))
by_source e loans (value.One (scalar.Bool b)) is = absurd (true≢false (sym is))
by_source e loans (value.One (scalar.Int n)) is = absurd (true≢false (sym is))
by_source e loans (value.One (scalar.Text text)) is = absurd (true≢false (sym is))
by_source e loans (value.One (scalar.Bytes bytes)) is = absurd (true≢false (sym is))
by_source e loans (value.One scalar.Ellipsis) is = absurd (true≢false (sym is))
by_source e loans (value.Slice s) is = absurd (true≢false (sym is))
by_source e loans (value.Tuple parts) is = absurd (true≢false (sym is))
by_source e loans (value.List parts) is = absurd (true≢false (sym is))
by_source e loans (value.Slices slices) is = absurd (true≢false (sym is))

adds_so : (e : Exporter) (v : Verb) (loans : List (ℕ × Loan)) → IsAddedToItself e v (lent_for_each e loans (handles_read subject.Own v)) → AddsItself e v loans
adds_so e v loans is =
    let read : is_itself is.source (lent_for_each e loans (handle_of_value is.source)) ≡ true = subst (λ (w : Verb). is_itself is.source (lent_for_each e loans (handles_read subject.Own w)) ≡ true) is.added is.itself in
    let found = by_source e loans is.source read in
    record { byte_array = is.byte_array; handle = found.0; added = is.added ∙ ap verb.IAdd found.1; itself = found.2 }

-- ---- the laws

replied : (e : Exporter) (v : Verb) (loans : List (ℕ × Loan)) (asked : Result Bool Fault) (effect answer : Result (Exporter × LocalReply) Fault) → answer ≡ effect → IfDone (IsStep e subject.Own v) answer → IsAsked e asked effect
    → (asked ≡ Err fault.Buffer → AddsItself e v loans) → IsRefusedWhileExported e v loans asked (settled_answer e answer).1
replied e v loans asked effect answer same step is own = record {
  earlier = λ f first. ap (λ (r : Result (Exporter × LocalReply) Fault). (settled_answer e r).1) (same ∙ is.earlier f first);
  refused = λ asks live. ap (λ (r : Result (Exporter × LocalReply) Fault). (settled_answer e r).1) (same ∙ is.refused asks live);
  only = λ refusal. either own (is.only (sym same ∙ refused_by e v answer fault.Buffer step refusal));
}

pub refused_while_exported : EffectsAreSafe → ReadingKeeps → EditsAskBeforeTheyResize → OnlyAddingItselfIsRefusedEarlier → ResizingIsRefusedWhileExported
refused_while_exported effects reading asking alone e v loans edit known =
    let lents = lent_for_each e loans (handles_read subject.Own v) in
    let same : answer_of e subject.Own v loans ≡ edit_of_own e v lents =
    ap (λ (b : Bool). if b then effect_on_own e v lents else Err fault.UnknownName) known ∙ effect_is_edit e v lents edit in
    replied e v loans (asks e v lents) (edit_of_own e v lents) (answer_of e subject.Own v loans) same (answered_step effects reading e subject.Own v loans) (asking e v lents) (λ is. adds_so e v loans (alone e v lents is))

-- A handle that is lent as the exporter itself is known.
known_own : (e : Exporter) (loans : List (ℕ × Loan)) (h : ℕ) → loan_of loans h ≡ Some loan.Own → are_known e loans (h ∷ []) ≡ true
known_own e loans h is = ap (λ (l : Option Loan). is_named e (given_loan l) && true) is

lent_own_is : (e : Exporter) (loans : List (ℕ × Loan)) (h : ℕ) → loan_of loans h ≡ Some loan.Own → lent_for_each e loans (h ∷ []) ≡ own_lent e h ∷ []
lent_own_is e loans h is = ap (λ (l : Option Loan). lent_as h (subject_in (given_loan l)) (snap_in e (given_loan l)) ++ []) is

of_own : (e : Exporter) (k : ExporterKind) (h : ℕ) → e.kind ≡ k → k ≡ kind.ByteArray → iadd_of_own e (value.One (scalar.Handle h)) (own_lent e h ∷ []) ≡ Err fault.Buffer
of_own e kind.ByteArray h of is =
    ap (λ (k : ExporterKind). of_byte_array k (added e (value.One (scalar.Handle h)) (own_lent e h ∷ []))) of
    ∙ ap (λ (o : Option Snap). content_of o >>= λ bytes. unless (is_itself (value.One (scalar.Handle h)) (own_lent e h ∷ [])) fault.Buffer >>= λ _. resizable e >>= λ _. Ok (with_bytes e (e.bytes ++ bytes))) (paired_first h (snap_of_exporter e))
    ∙ ap (λ (k : ExporterKind). content_of_kind (snap_kind_of k) false true e.bytes >>= λ bytes. unless (is_itself (value.One (scalar.Handle h)) (own_lent e h ∷ [])) fault.Buffer >>= λ _. resizable e >>= λ _. Ok (with_bytes e (e.bytes ++ bytes))) of
    ∙ ap (λ (b : Bool). unless b fault.Buffer >>= λ _. resizable e >>= λ _. Ok (with_bytes e (e.bytes ++ e.bytes))) (first_named h true)
of_own e kind.Bytes h of is = absurd (cc)
of_own e (kind.Vector readonly) h of is = absurd (cc)

pub itself_refused : AddingItselfIsRefused
itself_refused e v loans is =
    let source : Value = value.One (scalar.Handle is.handle) in
    ap (λ (w : Verb). estep e subject.Own w loans) is.added
    ∙ ap (λ (b : Bool). settled_answer e (if b then iadd_of_own e source (lent_for_each e loans (is.handle ∷ [])) else Err fault.UnknownName)) (known_own e loans is.handle is.itself)
    ∙ ap (λ (lents : List Lent). settled_answer e (iadd_of_own e source lents)) (lent_own_is e loans is.handle is.itself)
    ∙ ap (settled_answer e) (of_own e e.kind is.handle refl is.byte_array)

no_kind : (e : Exporter) (b : Bool) (k : ExporterKind) (effect : Result (Exporter × LocalReply) Fault) → k ≢ kind.ByteArray → settled_answer e (if b then of_byte_array k effect else Err fault.UnknownName) ≡ (e, reply.Refused fault.UnknownName)
no_kind e b kind.ByteArray effect differs = absurd (differs refl)
no_kind e true kind.Bytes effect differs = refl
no_kind e false kind.Bytes effect differs = refl
no_kind e true (kind.Vector readonly) effect differs = refl
no_kind e false (kind.Vector readonly) effect differs = refl

pub others_have_none : OnlyByteArraysAreAddedTo
others_have_none e v loans differs =
    let lents = lent_for_each e loans (handles_read subject.Own (verb.IAdd v)) in no_kind e (are_known e loans (handles_of (verb.IAdd v))) e.kind (added e v lents) differs
