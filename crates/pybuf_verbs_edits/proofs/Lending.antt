-- What is lent for a handle of a value.
use Rattle.std.proofs.Common.{◌≡◌, ℕ, zero, suc, ◌<◌, List, [], ◌∷◌, ◌++◌, Bool, true, false, ap, sym, ◌∙◌, refl, subst, arith}
use Rattle.std.specs.Prelude.{nat_lt, count_by, slice_get, Option, Some, None, Result, Ok, Err, if◌then◌else◌}
use Rattle.std.specs.Option.{ok_or, option_map}
use Rattle.std.proofs.lemmas.List.Sums.{sum_by-cons}
use Rattle.pybuf_lemmas.proofs.Numbers.{number_equals_itself}
use Rattle.pybuf_value.specs.declared.faults.Fault.{Fault}
use Rattle.pybuf_value.specs.declared.faults.Fault.TheVariants as fault
use Rattle.pybuf_value.specs.declared.snaps.Snap.{Snap}
use Rattle.pybuf_value.specs.declared.values.Value.{Value}
use Rattle.pybuf_value.specs.declared.values.Value.TheVariants as value
use Rattle.pybuf_value.specs.declared.values.Scalar.TheVariants as scalar
use Rattle.pybuf_value.specs.declared.halt.Halt.{Halt}
use Rattle.pybuf_value.specs.Refusing.{◌>>=◌, unless}
use Rattle.pybuf_value.specs.Snaps.{snap_of, content_of, content_of_kind, content_of_named}
use Rattle.pybuf_index.specs.Parts.{SliceParts}
use Rattle.pybuf_command.specs.declared.options.ByteInnerNewOptions.{ByteInnerNewOptions}
use Rattle.pybuf_bytes.specs.Options.{bytes_of_options}
use Rattle.pybuf_desc.specs.Layouts.{Layout}
use Rattle.pybuf_desc.specs.Contiguous.{is_contiguous_layout}
use Rattle.pybuf_desc.specs.Items.{content_of_layout}
use Rattle.pybuf_command.specs.declared.kinds.ExporterKind.{ExporterKind}
use Rattle.pybuf_command.specs.declared.kinds.ExporterKind.TheVariants as exporter_kind
use Rattle.pybuf_command.specs.declared.kinds.Subject.{Subject}
use Rattle.pybuf_command.specs.declared.kinds.Subject.TheVariants as subject
use Rattle.pybuf_command.specs.declared.loans.Loan.{Loan}
use Rattle.pybuf_command.specs.declared.loans.Loan.TheVariants as loan
use Rattle.pybuf_command.specs.declared.commands.LocalReply.{LocalReply}
use Rattle.pybuf_command.specs.Handles.{handle_of_value, handle_of_option, source_alone, handle_alone}
use Rattle.pybuf_state.specs.Exporter.{Exporter, View, is_exported, exports_of, live_layout}
use Rattle.pybuf_state.specs.Resizing.{resizable}
use Rattle.pybuf_state.specs.Snaps.{snap_kind_of, snap_of_exporter, snap_of_view, snap_of_subject}
use Rattle.pybuf_state.specs.Loans.{Lent, lent_as, lents_by, subject_in, snap_in, snaps_of}
use Rattle.pybuf_state.specs.Answers.{Answers}
use Rattle.pybuf_verbs_edits.specs.Common.{with_bytes, is_own, names_own}
use Rattle.pybuf_verbs_edits.specs.Growing.{repeated_unless_empty, extended_or_doubled, added}
use Rattle.pybuf_verbs_edits.specs.Replacing.{assigned_from, replaced_all, initialized}
use Rattle.pybuf_verbs_edits.specs.LentBytes.{bytes_added, extended_by, added_by, extended_as, added_as, assigned_by, initialized_by}

abbrev Effect : Type 0
Effect = Result (Exporter × LocalReply) Fault

abbrev okay : {X : Type 0} → X → Result X Fault
okay x = Ok x

-- ---- a view of the exporter itself

abbrev once : View → ℕ
once v = if is_exported v then 1 else 0

-- An unreleased view is counted.
counted : (views : List View) (k : ℕ) (v : View) → slice_get views k ≡ Some v → v.released ≡ false → 0 < count_by is_exported views
counted [] k v at live = absurd (cc)
counted (w ∷ views) zero v at live =
    let same : w ≡ v = cc in
    let one : once w ≡ once (record w { released = false }) = ap once same ∙ ap (λ (b : Bool). once (record w { released = b })) live in
    omega (arith, one, sum_by-cons once w views)
counted (w ∷ views) (suc k) v at live =
    omega (arith, counted views k v at live, sum_by-cons once w views)

while_counted : (n : ℕ) → 0 < n → unless (nat_lt 0 n) fault.Buffer ≡ Err fault.Buffer
while_counted n some =
    let over : nat_lt 0 n ≡ true = grind (arith, some) in
    ap (λ (b : Bool). unless b fault.Buffer) over

-- While there is such a view, the length stays.
refused : (e : Exporter) (k : ℕ) (v : View) → slice_get e.views k ≡ Some v → v.released ≡ false → resizable e ≡ Err fault.Buffer
refused e k v at live = while_counted (exports_of e) (counted e.views k v at live)

abbrev layout_found : Option View → Result Layout Fault
layout_found o = ok_or o fault.UnknownName >>= λ v. unless v.released fault.Value >>= λ _. Ok v.layout

view_unreleased : (e : Exporter) (k : ℕ) (v : View) (b : Bool) (l : Layout) → slice_get e.views k ≡ Some v → v.released ≡ b → (unless b fault.Value >>= λ _. okay v.layout) ≡ Ok l → resizable e ≡ Err fault.Buffer
view_unreleased e k v true l at is found = absurd (cc)
view_unreleased e k v false l at is found = refused e k v at is

view_there : (e : Exporter) (k : ℕ) (o : Option View) (l : Layout) → slice_get e.views k ≡ o → layout_found o ≡ Ok l → resizable e ≡ Err fault.Buffer
view_there e k None l at found = absurd (cc)
view_there e k (Some v) l at found = view_unreleased e k v v.released l at refl found

view_live : (bytes : List ℕ) (v : View) (b : Bool) (l : Layout) → v.released ≡ b → (unless b fault.Value >>= λ _. okay v.layout) ≡ Ok l → content_of_named (Some (snap_of_view bytes v)) ≡ Ok (content_of_layout bytes l)
view_live bytes v true l is found = absurd (cc)
view_live bytes v false l is found =
    let shown : v.layout ≡ l = cc in
    rw is (ap (λ (x : Layout). okay (content_of_layout bytes x)) shown)

view_given : (bytes : List ℕ) (o : Option View) (l : Layout) → layout_found o ≡ Ok l → content_of_named (option_map (snap_of_view bytes) o) ≡ Ok (content_of_layout bytes l)
view_given bytes None l found = absurd (cc)
view_given bytes (Some v) l found = view_live bytes v v.released l refl found

-- the bytes of an unreleased view
view_content : (e : Exporter) (k : ℕ) (l : Layout) → live_layout e k ≡ Ok l → content_of_named (snap_of_subject e (subject.View k)) ≡ Ok (content_of_layout e.bytes l)
view_content e k l found = view_given e.bytes (slice_get e.views k) l found

-- An edit by these bytes that asks for another length is refused, whatever the bytes are.
view_asks : (e : Exporter) (k : ℕ) (l : Layout) (g : List ℕ → Bool → Effect) → live_layout e k ≡ Ok l → (content_of_named (snap_of_subject e (subject.View k)) >>= λ bytes. (resizable e >>= g bytes)) ≡ Err fault.Buffer
view_asks e k l g found =
    ap (λ (r : Result (List ℕ) Fault). r >>= λ bytes. (resizable e >>= g bytes)) (view_content e k l found)
    ∙ ap (λ (r : Result Bool Fault). r >>= g (content_of_layout e.bytes l)) (view_there e k (slice_get e.views k) l refl found)

pub view_extends : (e : Exporter) (k : ℕ) (l : Layout) → live_layout e k ≡ Ok l → extended_by e (snap_of_subject e (subject.View k)) ≡ Err fault.Buffer
view_extends e k l found = view_asks e k l (λ bytes _. okay (with_bytes e (e.bytes ++ bytes))) found

pub view_initializes : (e : Exporter) (k : ℕ) (l : Layout) → live_layout e k ≡ Ok l → initialized_by e (snap_of_subject e (subject.View k)) ≡ Err fault.Buffer
view_initializes e k l found = view_asks e k l (λ bytes _. okay (with_bytes e bytes)) found

adds_live : (e : Exporter) (k : ℕ) (v : View) (b : Bool) (l : Layout) → slice_get e.views k ≡ Some v → v.released ≡ b → (unless b fault.Value >>= λ _. okay v.layout) ≡ Ok l → is_contiguous_layout l ≡ true
    → added_by e (Some (snap_of_view e.bytes v)) ≡ Err fault.Buffer
adds_live e k v true l at is found effect = absurd (cc)
adds_live e k v false l at is found effect =
    let shown : v.layout ≡ l = cc in
    let in_a_row : is_contiguous_layout v.layout ≡ true = ap is_contiguous_layout shown ∙ effect in
    rw (is, in_a_row, refused e k v at is) refl

adds : (e : Exporter) (k : ℕ) (o : Option View) (l : Layout) → slice_get e.views k ≡ o → layout_found o ≡ Ok l → is_contiguous_layout l ≡ true → added_by e (option_map (snap_of_view e.bytes) o) ≡ Err fault.Buffer
adds e k None l at found effect = absurd (cc)
adds e k (Some v) l at found effect = adds_live e k v v.released l at refl found effect

pub view_adds : (e : Exporter) (k : ℕ) (l : Layout) → live_layout e k ≡ Ok l → is_contiguous_layout l ≡ true → added_by e (snap_of_subject e (subject.View k)) ≡ Err fault.Buffer
view_adds e k l found effect = adds e k (slice_get e.views k) l refl found effect

-- ---- something of another exporter

pub other_extends : (e : Exporter) (o : Option Snap) → extended_as e (option_map loan.Other o) ≡ extended_by e o
other_extends e None = refl
other_extends e (Some snap) = refl

pub other_adds : (e : Exporter) (o : Option Snap) → added_as e (option_map loan.Other o) ≡ added_by e o
other_adds e None = refl
other_adds e (Some snap) = refl

-- ---- what is lent for one handle

-- just what is lent for this handle
abbrev alone : ℕ → Option Subject → Option Snap → List Lent
alone h s o = lent_as h s o ++ []

abbrev some_if : Bool → Snap → Option Snap
some_if b snap = if b then Some snap else None

found_alone : (h : ℕ) (s : Option Subject) (o : Option Snap) → snap_of (snaps_of (alone h s o)) h ≡ o
found_alone h s None = refl
found_alone h s (Some snap) = ap (λ (b : Bool). some_if b snap) (number_equals_itself h)

other_named : (h : ℕ) (s : Option Subject) (o : Option Snap) → is_own s ≡ false → names_own (alone h s o) h ≡ false
other_named h s None other = refl
other_named h s (Some snap) other = ap (λ (b : Bool). if b then is_own s else false) (number_equals_itself h) ∙ other

own_named : (h : ℕ) (snap : Snap) → names_own (alone h (Some subject.Own) (Some snap)) h ≡ true
own_named h snap = ap (λ (b : Bool). if b then true else false) (number_equals_itself h)

-- `extend`
abbrev extended_if : Exporter → Bool → Option Snap → Effect
extended_if e itself lent = if itself then repeated_unless_empty e 2 else extended_by e lent

extends : (e : Exporter) (h : ℕ) (s : Option Subject) (o : Option Snap) → is_own s ≡ false → extended_or_doubled e (value.One (scalar.Handle h)) (alone h s o) ≡ extended_by e o
extends e h s o other =
    ap (λ (b : Bool). extended_if e b (snap_of (snaps_of (alone h s o)) h)) (other_named h s o other)
    ∙ ap (extended_by e) (found_alone h s o)

extends_own : (e : Exporter) (h : ℕ) (snap : Snap) → extended_or_doubled e (value.One (scalar.Handle h)) (alone h (Some subject.Own) (Some snap)) ≡ repeated_unless_empty e 2
extends_own e h snap = ap (λ (b : Bool). extended_if e b (snap_of (snaps_of (alone h (Some subject.Own) (Some snap))) h)) (own_named h snap)

pub handle_extends : (e : Exporter) (h : ℕ) (o : Option Loan) → extended_or_doubled e (value.One (scalar.Handle h)) (alone h (subject_in o) (snap_in e o)) ≡ extended_as e o
handle_extends e h None = refl
handle_extends e h (Some loan.Own) = extends_own e h (snap_of_exporter e)
handle_extends e h (Some (loan.View k)) = extends e h (Some (subject.View k)) (snap_of_subject e (subject.View k)) refl
handle_extends e h (Some (loan.Iter k)) = extends e h (Some (subject.Iter k)) (snap_of_subject e (subject.Iter k)) refl
handle_extends e h (Some (loan.Other snap)) = extends e h None (Some snap) refl
handle_extends e h (Some loan.Missing) = refl

-- `iadd`
abbrev added_if : Exporter → Bool → Option Snap → Effect
added_if e itself lent = content_of lent >>= λ bytes. (unless itself fault.Buffer >>= λ _. bytes_added e bytes)

adds_bytes : (e : Exporter) (h : ℕ) (s : Option Subject) (o : Option Snap) → is_own s ≡ false → added e (value.One (scalar.Handle h)) (alone h s o) ≡ added_by e o
adds_bytes e h s o other =
    ap (λ (b : Bool). added_if e b (snap_of (snaps_of (alone h s o)) h)) (other_named h s o other)
    ∙ ap (added_if e false) (found_alone h s o)

own_content : (k : ExporterKind) (bytes : List ℕ) → content_of_kind (snap_kind_of k) false true bytes ≡ Ok bytes
own_content exporter_kind.Bytes bytes = refl
own_content exporter_kind.ByteArray bytes = refl
own_content (exporter_kind.Vector readonly) bytes = refl

adds_own : (e : Exporter) (h : ℕ) → added e (value.One (scalar.Handle h)) (alone h (Some subject.Own) (Some (snap_of_exporter e))) ≡ Err fault.Buffer
adds_own e h =
    ap (λ (b : Bool). added_if e b (snap_of (snaps_of (alone h (Some subject.Own) (Some (snap_of_exporter e)))) h)) (own_named h (snap_of_exporter e))
    ∙ ap (added_if e true) (found_alone h (Some subject.Own) (Some (snap_of_exporter e)))
    ∙ ap (λ (r : Result (List ℕ) Fault). r >>= λ bytes. (unless true fault.Buffer >>= λ _. bytes_added e bytes)) (own_content e.kind e.bytes)

pub handle_adds : (e : Exporter) (h : ℕ) (o : Option Loan) → added e (value.One (scalar.Handle h)) (alone h (subject_in o) (snap_in e o)) ≡ added_as e o
handle_adds e h None = refl
handle_adds e h (Some loan.Own) = adds_own e h
handle_adds e h (Some (loan.View k)) = adds_bytes e h (Some (subject.View k)) (snap_of_subject e (subject.View k)) refl
handle_adds e h (Some (loan.Iter k)) = adds_bytes e h (Some (subject.Iter k)) (snap_of_subject e (subject.Iter k)) refl
handle_adds e h (Some (loan.Other snap)) = adds_bytes e h None (Some snap) refl
handle_adds e h (Some loan.Missing) = refl

-- `set` by a slice
pub handle_assigns : (e : Exporter) (parts : SliceParts) (h : ℕ) (o : Option Loan) → assigned_from e parts (value.One (scalar.Handle h)) (alone h (subject_in o) (snap_in e o)) ≡ assigned_by e parts (snap_in e o)
handle_assigns e parts h o = ap (assigned_by e parts) (found_alone h (subject_in o) (snap_in e o))

-- An effect on a value that is a handle answers by what the handle is lent as.
pub by_handle : (effect : Value → List Lent → Effect) (short : Option Loan → Effect) (e : Exporter) (v : Value) (h : ℕ) (named : ℕ → Option Loan) (o : Option Loan) (r : Result LocalReply Halt) (new : Exporter)
    → ((x : Option Loan) → effect (value.One (scalar.Handle h)) (alone h (subject_in x) (snap_in e x)) ≡ short x) → v ≡ value.One (scalar.Handle h) → o ≡ named h
    → Answers (short o) e r new → Answers (effect v (lents_by e named (handle_of_value v))) e r new
by_handle effect short e v h named o r new same is found answers =
    subst (λ (x : Value). Answers (effect x (lents_by e named (handle_of_value x))) e r new) (sym is)
    (subst (λ (answer : Effect). Answers answer e r new) (sym (same (named h)))
    (subst (λ (x : Option Loan). Answers (short x) e r new) found answers))

-- ---- what is lent for a source that stands alone

alone_read : (e : Exporter) (s n r : Option Value) (h : ℕ) (named : ℕ → Option Loan) → source_alone s n r ≡ Some h
    → bytes_of_options (snaps_of (lents_by e named (handle_of_option s))) s n r ≡ content_of_named (snap_in e (named h))
alone_read e (Some (value.One (scalar.Handle g))) None None h named is =
    let same : g ≡ h = cc in
    ap content_of_named (found_alone g (subject_in (named g)) (snap_in e (named g))) ∙ ap (λ (x : ℕ). content_of_named (snap_in e (named x))) same
alone_read e s n r h named is = absurd (cc)

-- If a handle is the only option, the options answer by what that handle is lent as.
pub by_source : (e : Exporter) (options : ByteInnerNewOptions) (h : ℕ) (named : ℕ → Option Loan) (o : Option Loan) (r : Result LocalReply Halt) (new : Exporter) → handle_alone options ≡ Some h → o ≡ named h
    → Answers (initialized_by e (snap_in e o)) e r new → Answers (initialized e options (lents_by e named (handle_of_option options.source))) e r new
by_source e options h named o r new is found answers =
    subst (λ (bytes : Result (List ℕ) Fault). Answers (bytes >>= replaced_all e) e r new) (sym (alone_read e options.source options.encoding options.errors h named is))
    (subst (λ (x : Option Loan). Answers (initialized_by e (snap_in e x)) e r new) found answers)
