-- Lemmas for the code of an assignment by a slice.
use Rattle.std.proofs.Common.{◌≡◌, ℕ, List, [], ◌∷◌, ◌++◌, length, take, drop, Bool, true, false, true≢false, ap, ap₂, sym, ◌∙◌, refl, subst, arith}
use Rattle.std.specs.Prelude.{◌==◌, ◌&&◌, ◌||◌, not, bytes_eq, slice_index, Option, Some, None, Result, Ok}
use Rattle.std.proofs.lemmas.Bool.{eqb-true}
use Rattle.std.proofs.lemmas.Grind.{common_steps}
use Rattle.pybuf_lemmas.proofs.Booleans.{both_of}
use Rattle.pybuf_memoryview.specs.Facts.{row_shape, length_of_content}
use Rattle.pybuf_value.specs.declared.faults.Fault.{Fault}
use Rattle.pybuf_value.specs.declared.faults.Fault.TheVariants as fault
use Rattle.pybuf_value.specs.declared.snaps.Snap.{Snap}
use Rattle.pybuf_value.specs.declared.snaps.SnapKind.{SnapKind}
use Rattle.pybuf_value.specs.declared.snaps.SnapKind.TheVariants as snap_kind
use Rattle.pybuf_value.specs.Refusing.{◌>>=◌, unless}
use Rattle.pybuf_value.specs.Snaps.{is_iterator}
use Rattle.pybuf_desc.specs.Layouts.{Layout}
use Rattle.pybuf_memoryview.specs.Sized.{is_sized, byte_count}
use Rattle.pybuf_memoryview.specs.Fits.{fits_snap, fits_kind, is_row_of}
use Rattle.pybuf_command.specs.declared.loans.Loan.{Loan}
use Rattle.pybuf_command.specs.declared.commands.LocalReply.{LocalReply}
use Rattle.pybuf_command.specs.declared.commands.LocalReply.TheVariants as reply
use Rattle.pybuf_state.specs.Exporter.{Exporter, new_exporter}
use Rattle.pybuf_state.specs.Answers.{Answers}
use Rattle.pybuf_state.specs.Loans.{Lent, lent_as, lents_by, subject_in, snap_in}
use Rattle.pybuf_state.specs.Snaps.{snap_of_exporter}
use Rattle.pybuf_value.specs.declared.halt.Halt.{Halt}
use Rattle.pybuf_value.specs.declared.values.Value.{Value}
use Rattle.pybuf_value.specs.declared.values.Value.TheVariants as value
use Rattle.pybuf_value.specs.declared.values.Scalar.TheVariants as scalar
use Rattle.pybuf_command.specs.Handles.{handle_of_value}
use Rattle.pybuf_command.specs.declared.kinds.ExporterKind.TheVariants as kind
use Rattle.pybuf_command.specs.declared.kinds.Subject.{Subject}
use Rattle.pybuf_verbs_writes.specs.Laid.{laid}
use Rattle.pybuf_verbs_writes.specs.Assign.{has_form_of, lent_source, source_of, assigned, assigned_from, assigned_of_value}

one_entry : (shape : List ℕ) → length shape ≡ 1 → shape ≡ slice_index shape 0 ∷ []
one_entry [] one = absurd (omega (arith, one))
one_entry (n ∷ []) one = refl
one_entry (n ∷ (m ∷ shape)) one = absurd (omega (arith, one))

pub record IsOfForm (target : Layout) (itemsize : ℕ) (shape : List ℕ) : Type 0 where
  pub same_size : itemsize ≡ target.itemsize
  pub same_shape : shape ≡ target.shape

pub of_form : (target : Layout) (format : List ℕ) (itemsize : ℕ) (shape : List ℕ) → length target.shape ≡ 1 → has_form_of target format itemsize shape ≡ true → IsOfForm target itemsize shape
of_form target format itemsize shape one is =
    let rest = (both_of (bytes_eq format target.format) (itemsize == target.itemsize && is_row_of (slice_index target.shape 0) shape) is).1 in
    let parts = both_of (itemsize == target.itemsize) (is_row_of (slice_index target.shape 0) shape) rest in
    record { same_size = eqb-true itemsize target.itemsize parts.0; same_shape = row_shape (slice_index target.shape 0) shape parts.1 ∙ sym (one_entry target.shape one) }

-- The source has as many bytes as the target.
pub bytes_of_form : (target : Layout) (itemsize : ℕ) (shape : List ℕ) → IsOfForm target itemsize shape → byte_count itemsize shape ≡ byte_count target.itemsize target.shape
bytes_of_form target itemsize shape is = ap₂ (λ (size : ℕ) (s : List ℕ). byte_count size s) is.same_size is.same_shape

filled : (released : Bool) (count bytes : ℕ) → released ≡ false → (released || count == bytes) ≡ true → count ≡ bytes
filled true count bytes live is = absurd (true≢false live)
filled false count bytes live is = eqb-true count bytes is

by_kind : (k : SnapKind) (s : Snap) → fits_kind k s ≡ true → is_iterator k ≡ false → s.released ≡ false → length s.content ≡ byte_count s.itemsize s.shape
by_kind snap_kind.Bytes s is other live = length_of_content s is
by_kind snap_kind.ByteArray s is other live = length_of_content s is
by_kind snap_kind.Vector s is other live = length_of_content s is
by_kind snap_kind.View s is other live = filled s.released (length s.content) (byte_count s.itemsize s.shape) live is
by_kind snap_kind.Iterator s is other live = absurd (true≢false other)

-- A snap that fits has as many bytes as its items.
pub content_fits : (s : Snap) → fits_snap s ≡ true → is_iterator s.kind ≡ false → s.released ≡ false → length s.content ≡ byte_count s.itemsize s.shape
content_fits s fit other live = by_kind s.kind s (both_of (fits_kind s.kind s) (is_sized s.format s.itemsize) fit).0 other live

-- ---- what is there after an assignment

abbrev okay : Exporter × LocalReply → Result (Exporter × LocalReply) Fault
okay after = Ok after

let_pass : {B : Type 0} (b : Bool) (f : Fault) (r : Result B Fault) → b ≡ false → (unless b f >>= λ _. r) ≡ r
let_pass true f r is = absurd (true≢false is)
let_pass false f r is = refl

pub is_assigned : (e : Exporter) (target : Layout) (snap : Snap) → snap.released ≡ false → has_form_of target snap.format snap.itemsize snap.shape ≡ true
    → assigned e target snap ≡ Ok (record e { bytes = laid e.bytes target.itemsize target.starts snap.content }, reply.Ok)
is_assigned e target snap live form =
    let_pass snap.released fault.Value _ live ∙ let_pass (not (has_form_of target snap.format snap.itemsize snap.shape)) fault.Value _ (ap not form)

pub is_assigned_from : (e : Exporter) (target : Layout) (lent : Option Snap) (snap : Snap) (bytes : List ℕ) → source_of lent ≡ Ok snap → snap.released ≡ false
    → has_form_of target snap.format snap.itemsize snap.shape ≡ true → bytes ≡ laid e.bytes target.itemsize target.starts snap.content
    → assigned_from e target lent ≡ Ok (record e { bytes = bytes }, reply.Ok)
is_assigned_from e target lent snap bytes named live form now =
    ap (λ (r : Result Snap Fault). r >>= assigned e target) named ∙ is_assigned e target snap live form
    ∙ ap (λ (bs : List ℕ). okay (record e { bytes = bs }, reply.Ok)) (sym now)

-- The bytes that were lent come back written, and there are as many.
pub lent_back : (old new : List ℕ) (n : ℕ) → length new ≡ n → take n (new ++ drop (length new) old) ≡ new
lent_back old new n is = grind (arith, common_steps, is)

-- ---- by what a handle names and by the kind of a value

same_source : (h : ℕ) (s : Option Subject) (o : Option Snap) → lent_source (lent_as h s o ++ []) ≡ source_of o
same_source h s None = refl
same_source h s (Some snap) = refl

pub answers_by_handle : (e : Exporter) (target : Layout) (v : Value) (h : ℕ) (named : ℕ → Option Loan) (o : Option Loan) (r : Result LocalReply Halt) (new : Exporter) → v ≡ value.One (scalar.Handle h)
    → o ≡ named h → Answers (assigned_from e target (snap_in e o)) e r new → Answers (assigned_of_value e target v (lents_by e named (handle_of_value v))) e r new
answers_by_handle e target v h named o r new is found answers =
    subst (λ (x : Value). Answers (assigned_of_value e target x (lents_by e named (handle_of_value x))) e r new) (sym is)
    (subst (λ (source : Result Snap Fault). Answers (source >>= assigned e target) e r new) (sym (same_source h (subject_in (named h)) (snap_in e (named h))))
    (subst (λ (l : Option Loan). Answers (assigned_from e target (snap_in e l)) e r new) found answers))

pub answers_by_bytes : (e : Exporter) (target : Layout) (v : Value) (bytes content : List ℕ) (lents : List Lent) (r : Result LocalReply Halt) (new : Exporter) → v ≡ value.One (scalar.Bytes bytes)
    → content ≡ bytes → Answers (assigned e target (snap_of_exporter (new_exporter kind.Bytes content))) e r new → Answers (assigned_of_value e target v lents) e r new
answers_by_bytes e target v bytes content lents r new is same answers =
    subst (λ (x : Value). Answers (assigned_of_value e target x lents) e r new) (sym is)
    (subst (λ (bs : List ℕ). Answers (assigned e target (snap_of_exporter (new_exporter kind.Bytes bs))) e r new) same answers)
