-- Each edit keeps a sound exporter.
use Rattle.std.proofs.Common.{◌≡◌, ℕ, ◌*◌, ◌^◌, List, [], length, Bool, true, false, true≢false, sym, refl}
use Rattle.std.specs.Prelude.{not, ◌&&◌, ◌==◌, nat_lt, reverse, Option, Result, Ok, Err, if◌then◌else◌}
use Rattle.std.specs.List.{position_or_len}
use Rattle.std.proofs.lemmas.Bool.{eqb-true}
use Rattle.std.proofs.lemmas.List.{length-reverse}
use Rattle.pybuf_lemmas.proofs.Booleans.{true_if_not_false}
use Rattle.pybuf_state.specs.Facts.{safe_bind, safe_in_kind}
use Rattle.pybuf_value.specs.Facts.{passed_unless}
use Rattle.pybuf_value.specs.declared.faults.Fault.{Fault}
use Rattle.pybuf_value.specs.declared.faults.Fault.TheVariants as fault
use Rattle.pybuf_value.specs.declared.values.Value.{Value}
use Rattle.pybuf_value.specs.declared.values.Value.TheVariants as value
use Rattle.pybuf_value.specs.declared.values.PySlice.{PySlice}
use Rattle.pybuf_value.specs.Refusing.{◌>>=◌, unless, IfDone}
use Rattle.pybuf_value.specs.Numbers.{count_in, byte_in, times}
use Rattle.pybuf_value.specs.Snaps.{bytes_in, like_in}
use Rattle.pybuf_index.specs.Parts.{SliceParts, saturated_parts_of, picks_of}
use Rattle.pybuf_slice.specs.Edits.{is_one, assigned_list}
use Rattle.pybuf_slice.specs.EditLaws.{AsManyKeepTheLength}
use Rattle.pybuf_command.specs.declared.options.ByteInnerNewOptions.{ByteInnerNewOptions}
use Rattle.pybuf_bytes.specs.Options.{bytes_of_options}
use Rattle.pybuf_index.specs.Places.{entry_in}
use Rattle.pybuf_command.specs.declared.commands.Verb.TheVariants as verb
use Rattle.pybuf_command.specs.declared.commands.LocalReply.{LocalReply}
use Rattle.pybuf_command.specs.declared.commands.LocalReply.TheVariants as reply
use Rattle.pybuf_command.specs.declared.kinds.ExporterKind.{ExporterKind}
use Rattle.pybuf_command.specs.declared.kinds.ExporterKind.TheVariants as kind
use Rattle.pybuf_command.specs.declared.kinds.Subject.TheVariants as subject
use Rattle.pybuf_command.specs.Kinds.{holds_readonly, of_byte_array}
use Rattle.pybuf_memoryview.specs.Items.{index_in}
use Rattle.pybuf_state.specs.Exporter.{Exporter}
use Rattle.pybuf_state.specs.Keeps.{is_answer, is_vector, IsSafe, IsCopied}
use Rattle.pybuf_state.specs.Laws.{ReadingKeeps, WritingKeeps, ResizingKeeps, EmptyingKeeps}
use Rattle.pybuf_state.specs.Resizing.{has_exports, resizable}
use Rattle.pybuf_state.specs.Loans.{Lent, snaps_of}
use Rattle.pybuf_state.specs.Snaps.{snap_of_exporter}
use Rattle.pybuf_verbs_edits.specs.Common.{with_bytes, is_itself}
use Rattle.pybuf_verbs_edits.specs.Growing.{appended, inserted, repeated, repeated_unless_empty, multiplied, extended, extended_or_doubled, added}
use Rattle.pybuf_verbs_edits.specs.Shrinking.{count_or_last, popped, removed, cleared, byte_deleted, slice_deleted, deleted, taken, take_of_own}
use Rattle.pybuf_verbs_edits.specs.Replacing.{slice_set, initialized}
use Rattle.pybuf_verbs_edits.specs.Laws.{EditsAreSafe}

-- what each way to change an exporter keeps
pub record Ways : Type 0 where
  pub reading : ReadingKeeps
  pub writing : WritingKeeps
  pub resizing : ResizingKeeps
  pub emptying : EmptyingKeeps
  pub as_many : (items : List ℕ) (parts : SliceParts) (others : List ℕ) → AsManyKeepTheLength items parts others

-- ---- the ways in which effects end

kept : Ways → (e : Exporter) → IsSafe e (Ok (e, reply.Ok))
kept ways e = record { keeps = λ sound. ways.reading e sound; answers = refl }

resized_to : Ways → (e : Exporter) (bytes : List ℕ) (r : LocalReply) → has_exports e ≡ false → holds_readonly e.kind ≡ false → is_answer (record e { bytes = bytes }) r ≡ true → IsSafe e (Ok (record e { bytes = bytes }, r))
resized_to ways e bytes r free writable is = record { keeps = λ sound. ways.resizing e bytes sound free writable; answers = is }

written : Ways → (e : Exporter) (bytes : List ℕ) → holds_readonly e.kind ≡ false → length bytes ≡ length e.bytes → IsSafe e (Ok (with_bytes e bytes))
written ways e bytes writable same = record { keeps = λ sound. ways.writing e bytes sound writable same; answers = refl }

-- What follows the check for unreleased views need only be safe if there are none.
asked : (e : Exporter) (f : Bool → Result (Exporter × LocalReply) Fault) → ((u : Bool) → has_exports e ≡ false → IsSafe e (f u)) → IsSafe e (resizable e >>= f)
asked e f after = safe_bind e (resizable e) f (λ u is. after u (passed_unless (has_exports e) fault.Buffer u is))

either : (e : Exporter) (b : Bool) (effect other : Result (Exporter × LocalReply) Fault) → IsSafe e effect → IsSafe e other → IsSafe e (if b then effect else other)
either e true effect other first second = first
either e false effect other first second = second

-- ---- a lemma for each edit

appending : Ways → (e : Exporter) (v : Value) → holds_readonly e.kind ≡ false → IsSafe e (appended e v)
appending ways e v writable = safe_bind e (byte_in v) _ (λ byte _. asked e _ (λ u free. resized_to ways e _ reply.Ok free writable refl))

inserting : Ways → (e : Exporter) (index v : Value) → holds_readonly e.kind ≡ false → IsSafe e (inserted e index v)
inserting ways e index v writable = safe_bind e (count_in index) _ (λ number _. safe_bind e (byte_in v) _ (λ byte _. asked e _ (λ u free. resized_to ways e _ reply.Ok free writable refl)))

repeating : Ways → (e : Exporter) (n : ℕ) → holds_readonly e.kind ≡ false → IsSafe e (repeated e n)
repeating ways e n writable =
    asked e _ (λ u free. safe_bind e (unless (not (nat_lt (length e.bytes * n) (2 ^ 63))) fault.Overflow) _ (λ _ _. resized_to ways e _ reply.Ok free writable refl))

repeating_unless_empty : Ways → (e : Exporter) (n : ℕ) → holds_readonly e.kind ≡ false → IsSafe e (repeated_unless_empty e n)
repeating_unless_empty ways e n writable = either e (length e.bytes == 0) _ (repeated e n) (kept ways e) (repeating ways e n writable)

multiplying : Ways → (e : Exporter) (count : Value) → holds_readonly e.kind ≡ false → IsSafe e (multiplied e count)
multiplying ways e count writable =
    safe_bind e (count_in count) _ (λ number _. either e (is_one number) _ (repeated_unless_empty e (times number)) (kept ways e) (repeating_unless_empty ways e (times number) writable))

extending_by : Ways → (e : Exporter) (v : Value) (lents : List Lent) → holds_readonly e.kind ≡ false → IsSafe e (extended e v lents)
extending_by ways e v lents writable = safe_bind e (bytes_in (snaps_of lents) v) _ (λ bytes _. asked e _ (λ u free. resized_to ways e _ reply.Ok free writable refl))

extending : Ways → (e : Exporter) (v : Value) (lents : List Lent) → holds_readonly e.kind ≡ false → IsSafe e (extended_or_doubled e v lents)
extending ways e v lents writable = either e (is_itself v lents) (repeated_unless_empty e 2) (extended e v lents) (repeating_unless_empty ways e 2 writable) (extending_by ways e v lents writable)

adding : Ways → (e : Exporter) (v : Value) (lents : List Lent) → holds_readonly e.kind ≡ false → IsSafe e (added e v lents)
adding ways e v lents writable =
    safe_bind e (like_in (snaps_of lents) v) _ (λ bytes _. safe_bind e (unless (is_itself v lents) fault.Buffer) _ (λ _ _. asked e _ (λ u free. resized_to ways e _ reply.Ok free writable refl)))

popping : Ways → (e : Exporter) (index : Option Value) → holds_readonly e.kind ≡ false → IsSafe e (popped e index)
popping ways e index writable =
    safe_bind e (count_or_last index) _ (λ number _. asked e _ (λ u free. safe_bind e (entry_in (length e.bytes) number) _ (λ place _. resized_to ways e _ (reply.Item _) free writable refl)))

removing : Ways → (e : Exporter) (v : Value) → holds_readonly e.kind ≡ false → IsSafe e (removed e v)
removing ways e v writable =
    safe_bind e (byte_in v) _ (λ byte _. asked e _ (λ u free.
    safe_bind e (unless (not (nat_lt (position_or_len (λ b. b == byte) e.bytes) (length e.bytes))) fault.Value) _ (λ _ _. resized_to ways e _ reply.Ok free writable refl)))

clearing : Ways → (e : Exporter) → holds_readonly e.kind ≡ false → IsSafe e (cleared e)
clearing ways e writable = asked e _ (λ u free. resized_to ways e [] reply.Ok free writable refl)

deleting_byte : Ways → (e : Exporter) (key : Value) → holds_readonly e.kind ≡ false → IsSafe e (byte_deleted e key)
deleting_byte ways e key writable =
    safe_bind e (index_in key) _ (λ index _. asked e _ (λ u free. safe_bind e (entry_in (length e.bytes) index) _ (λ place _. resized_to ways e _ reply.Ok free writable refl)))

deleting_slice : Ways → (e : Exporter) (slice : PySlice) → holds_readonly e.kind ≡ false → IsSafe e (slice_deleted e slice)
deleting_slice ways e slice writable = safe_bind e (saturated_parts_of slice) _ (λ parts _. asked e _ (λ u free. resized_to ways e _ reply.Ok free writable refl))

deleting : Ways → (e : Exporter) (key : Value) → holds_readonly e.kind ≡ false → IsSafe e (deleted e key)
deleting ways e (value.Slice slice) writable = deleting_slice ways e slice writable
deleting ways e (value.One s) writable = deleting_byte ways e (value.One s) writable
deleting ways e (value.Tuple parts) writable = deleting_byte ways e (value.Tuple parts) writable
deleting ways e (value.List parts) writable = deleting_byte ways e (value.List parts) writable
deleting ways e (value.Slices slices) writable = deleting_byte ways e (value.Slices slices) writable

taking_if : Ways → (e : Exporter) (b : Bool) → is_vector e.kind ≡ b → IsSafe e (if b then taken e else Err fault.UnknownName)
taking_if ways e true is = asked e _ (λ u free. record { keeps = λ sound. ways.emptying e sound free is; answers = refl })
taking_if ways e false is = tt

taking : Ways → (e : Exporter) → IsSafe e (take_of_own e)
taking ways e = taking_if ways e (is_vector e.kind) refl

-- While a view is unreleased, a slice that is written gets as many bytes as it picks.
count_kept : (live other : Bool) (u : Bool) (n count : ℕ) → other ≡ not (n == count) → unless (live && other) fault.Buffer ≡ Ok u → live ≡ true → n ≡ count
count_kept true true u n count same is on = absurd (cc)
count_kept true false u n count same is on = eqb-true n count (true_if_not_false (n == count) (sym same))
count_kept false other u n count same is on = absurd (true≢false (sym on))

put : Ways → (e : Exporter) (parts : SliceParts) (bytes : List ℕ) (live : Bool) → has_exports e ≡ live → holds_readonly e.kind ≡ false → (live ≡ true → length (picks_of (length e.bytes) parts) ≡ length bytes) → IsSafe e (Ok (with_bytes e (assigned_list e.bytes parts bytes)))
put ways e parts bytes true is writable as_many = written ways e (assigned_list e.bytes parts bytes) writable (ways.as_many e.bytes parts bytes (as_many refl))
put ways e parts bytes false is writable as_many = resized_to ways e (assigned_list e.bytes parts bytes) reply.Ok is writable refl

assigning : Ways → (e : Exporter) (slice : PySlice) (v : Value) (lents : List Lent) → holds_readonly e.kind ≡ false → IsSafe e (slice_set e slice v lents)
assigning ways e slice v lents writable =
    safe_bind e (saturated_parts_of slice) _ (λ parts _.
    safe_bind e (bytes_in (snaps_of lents) v) _ (λ bytes _.
    let n = length (picks_of (length e.bytes) parts) in
    safe_bind e (unless (has_exports e && not (n == length bytes)) fault.Buffer) _ (λ u found.
    safe_bind e (unless (not (is_one parts.step) && not (n == length bytes)) fault.Value) _ (λ _ _.
    put ways e parts bytes (has_exports e) refl writable (count_kept (has_exports e) (not (n == length bytes)) u n (length bytes) refl found)))))

initializing : Ways → (e : Exporter) (options : ByteInnerNewOptions) (lents : List Lent) → holds_readonly e.kind ≡ false → IsSafe e (initialized e options lents)
initializing ways e options lents writable =
    safe_bind e (bytes_of_options (snaps_of lents) options.source options.encoding options.errors) _ (λ bytes _. asked e _ (λ u free. resized_to ways e bytes reply.Ok free writable refl))

copying : (e : Exporter) (k : ExporterKind) → e.kind ≡ k → IfDone (IsCopied e subject.Own) (of_byte_array k (Ok (e, reply.Fresh (snap_of_exporter e))))
copying e kind.ByteArray is = record { same = refl; copied = (is, refl) }
copying e kind.Bytes is = tt
copying e (kind.Vector readonly) is = tt

pub all_safe : Ways → EditsAreSafe
all_safe ways e (verb.Append v) lents = safe_in_kind e e.kind (appended e v) refl (appending ways e v)
all_safe ways e (verb.Extend v) lents = safe_in_kind e e.kind (extended_or_doubled e v lents) refl (extending ways e v lents)
all_safe ways e (verb.Insert index v) lents = safe_in_kind e e.kind (inserted e index v) refl (inserting ways e index v)
all_safe ways e (verb.Pop index) lents = safe_in_kind e e.kind (popped e index) refl (popping ways e index)
all_safe ways e (verb.Remove v) lents = safe_in_kind e e.kind (removed e v) refl (removing ways e v)
all_safe ways e verb.Clear lents = safe_in_kind e e.kind (cleared e) refl (clearing ways e)
all_safe ways e verb.Reverse lents = safe_in_kind e e.kind (Ok (with_bytes e (reverse e.bytes))) refl (λ writable. written ways e (reverse e.bytes) writable (length-reverse e.bytes))
all_safe ways e (verb.Del key) lents = safe_in_kind e e.kind (deleted e key) refl (deleting ways e key)
all_safe ways e (verb.IAdd v) lents = safe_in_kind e e.kind (added e v lents) refl (adding ways e v lents)
all_safe ways e (verb.IMul count) lents = safe_in_kind e e.kind (multiplied e count) refl (multiplying ways e count)
all_safe ways e (verb.Init options) lents = safe_in_kind e e.kind (initialized e options lents) refl (initializing ways e options lents)
all_safe ways e verb.Take lents = taking ways e
all_safe ways e verb.Copy lents = copying e e.kind refl
all_safe ways e (verb.Set (value.Slice slice) v) lents = safe_in_kind e e.kind (slice_set e slice v lents) refl (assigning ways e slice v lents)
all_safe ways e (verb.Set (value.One s) v) lents = tt
all_safe ways e (verb.Set (value.Tuple parts) v) lents = tt
all_safe ways e (verb.Set (value.List parts) v) lents = tt
all_safe ways e (verb.Set (value.Slices slices) v) lents = tt
all_safe ways e verb.View lents = tt
all_safe ways e (verb.Range from to) lents = tt
all_safe ways e (verb.Get key) lents = tt
all_safe ways e (verb.Cast format shape) lents = tt
all_safe ways e (verb.CastF format shape) lents = tt
all_safe ways e (verb.ToBytes order) lents = tt
all_safe ways e verb.Release lents = tt
all_safe ways e verb.Enter lents = tt
all_safe ways e verb.Exit lents = tt
all_safe ways e verb.ToContiguous lents = tt
all_safe ways e verb.ToList lents = tt
all_safe ways e verb.Len lents = tt
all_safe ways e (verb.Property name) lents = tt
all_safe ways e verb.ToReadonly lents = tt
all_safe ways e (verb.Compare op other) lents = tt
all_safe ways e verb.Hash lents = tt
all_safe ways e verb.Repr lents = tt
all_safe ways e verb.Iter lents = tt
all_safe ways e verb.Next lents = tt
all_safe ways e verb.LengthHint lents = tt
all_safe ways e (verb.SetState state) lents = tt
all_safe ways e (verb.Contains v) lents = tt
all_safe ways e (verb.Hex sep group) lents = tt
all_safe ways e (verb.Call method) lents = tt
