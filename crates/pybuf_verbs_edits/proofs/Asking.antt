-- Each edit asks before it resizes.
use Rattle.std.proofs.Common.{◌≡◌, ℕ, ◌*◌, ◌^◌, List, length, Bool, true, false, true≢false, ap, sym, ◌∙◌, refl, inl, inr}
use Rattle.std.specs.Prelude.{◌≢◌, ok_or, not, ◌&&◌, ◌==◌, nat_lt, Option, Some, None, Result, Ok, Err, if◌then◌else◌, reverse}
use Rattle.std.specs.List.{position_or_len}
use Rattle.pybuf_value.specs.declared.faults.Fault.{Fault}
use Rattle.pybuf_value.specs.declared.faults.Fault.TheVariants as fault
use Rattle.pybuf_value.specs.declared.values.Value.{Value}
use Rattle.pybuf_value.specs.declared.values.Value.TheVariants as value
use Rattle.pybuf_value.specs.declared.values.PySlice.{PySlice}
use Rattle.pybuf_value.specs.Refusing.{◌>>=◌, unless}
use Rattle.pybuf_value.specs.Numbers.{count_in, byte_in, times}
use Rattle.pybuf_value.specs.Snaps.{bytes_in, like_in}
use Rattle.pybuf_index.specs.Places.{item_place}
use Rattle.pybuf_index.specs.Parts.{SliceParts, saturated_parts_of, picks_of}
use Rattle.pybuf_slice.specs.Edits.{is_one}
use Rattle.pybuf_bytes.specs.Options.{bytes_of_options}
use Rattle.pybuf_command.specs.declared.commands.Verb.TheVariants as verb
use Rattle.pybuf_command.specs.declared.commands.LocalReply.{LocalReply}
use Rattle.pybuf_command.specs.declared.kinds.ExporterKind.{ExporterKind}
use Rattle.pybuf_command.specs.declared.kinds.ExporterKind.TheVariants as kind
use Rattle.pybuf_memoryview.specs.Items.{index_in}
use Rattle.pybuf_state.specs.Exporter.{Exporter}
use Rattle.pybuf_state.specs.Keeps.{is_vector}
use Rattle.pybuf_state.specs.Resizing.{has_exports, resizable}
use Rattle.pybuf_state.specs.Loans.{Lent, snaps_of}
use Rattle.pybuf_command.specs.Kinds.{of_byte_array}
use Rattle.pybuf_verbs_edits.specs.Common.{with_bytes, is_itself}
use Rattle.pybuf_verbs_edits.specs.Growing.{appended, inserted, repeated, repeated_unless_empty, multiplied, extended, extended_or_doubled, added}
use Rattle.pybuf_verbs_edits.specs.Shrinking.{count_or_last, popped, removed, cleared, byte_deleted, slice_deleted, deleted, taken}
use Rattle.pybuf_verbs_edits.specs.Replacing.{assigned, slice_set, initialized}
use Rattle.pybuf_verbs_edits.specs.Asking.{passed, key_passed, assignment_asks, byte_array_asks}
use Rattle.pybuf_verbs_edits.specs.Laws.{IsAsked, EditsAskBeforeTheyResize}

abbrev Effect : Type 0
Effect = Result (Exporter × LocalReply) Fault

abbrev is_buffer : Effect → Type 0
is_buffer effect = effect ≡ Err fault.Buffer

-- A check that refuses decides the answer.
refused_so : (e : Exporter) (f : Fault) → IsAsked e (Err f) (Err f)
refused_so e f = record {
  earlier = λ g is. ap (λ (y : Fault). let gone : Effect = Err y in gone) (let same : f ≡ g = cc in same);
  refused = λ is live. absurd (cc);
  only = λ is. inr (let same : f ≡ fault.Buffer = cc in ap (λ (y : Fault). let gone : Result Bool Fault = Err y in gone) same);
}

-- A check passes or refuses, and what follows it asks as it should.
checked : {A : Type 0} (e : Exporter) (r : Result A Fault) (f : A → Result Bool Fault) (g : A → Effect) → ((a : A) → IsAsked e (f a) (g a)) → IsAsked e (r >>= f) (r >>= g)
checked e (Ok a) f g after = after a
checked e (Err x) f g after = refused_so e x

-- After this check another length is asked for.
passing : {A : Type 0} (e : Exporter) (r : Result A Fault) (g : A → Effect) → ((a : A) → IsAsked e (Ok true) (g a)) → IsAsked e (passed r) (r >>= g)
passing e (Ok a) g after = after a
passing e (Err x) g after = refused_so e x

-- What asks for nothing is never refused with `BufferError`.
never : (e : Exporter) (effect : Effect) → (is_buffer effect → ⊥) → IsAsked e (Ok false) effect
never e effect other = record { earlier = λ f is. absurd (cc); refused = λ is live. absurd (cc); only = λ is. absurd (other is) }

-- What asks is refused while a view is unreleased, and what comes after that refuses in other ways.
asking_when : (e : Exporter) (b : Bool) (g : Bool → Effect) → has_exports e ≡ b → ((u : Bool) → is_buffer (g u) → ⊥) → IsAsked e (Ok true) (unless b fault.Buffer >>= g)
asking_when e true g is after = record { earlier = λ f is. absurd (cc); refused = λ asked live. refl; only = λ refusal. inl (refl, is) }
asking_when e false g is after = record { earlier = λ f is. absurd (cc); refused = λ asked live. absurd (true≢false (sym live ∙ is)); only = λ refusal. absurd (after true refusal) }

asking : (e : Exporter) (g : Bool → Effect) → ((u : Bool) → is_buffer (g u) → ⊥) → IsAsked e (Ok true) (resizable e >>= g)
asking e g after = asking_when e (has_exports e) g refl after

done_so : (after : Exporter × LocalReply) → is_buffer (Ok after) → ⊥
done_so after is = absurd (cc)

-- a check that refuses with another fault than `BufferError`
then_done : (b : Bool) (f : Fault) (g : Bool → Exporter × LocalReply) → f ≢ fault.Buffer → is_buffer (unless b f >>= λ u. Ok (g u)) → ⊥
then_done true f g other is = other (let same : f ≡ fault.Buffer = cc in same)
then_done false f g other is = absurd (cc)

placed : (o : Option ℕ) (g : ℕ → Exporter × LocalReply) → is_buffer (ok_or o fault.Index >>= λ place. Ok (g place)) → ⊥
placed None g is = absurd (cc)
placed (Some place) g is = absurd (cc)

-- ---- only a bytearray has edits

of_kind : (k : ExporterKind) (e : Exporter) (a : Result Bool Fault) (effect : Effect) → IsAsked e a effect → IsAsked e (of_byte_array k a) (of_byte_array k effect)
of_kind kind.ByteArray e a effect asked = asked
of_kind kind.Bytes e a effect asked = refused_so e fault.UnknownName
of_kind (kind.Vector readonly) e a effect asked = refused_so e fault.UnknownName

none_of_kind : (k : ExporterKind) (e : Exporter) → IsAsked e (of_byte_array k (Ok false)) (Err fault.UnknownName)
none_of_kind kind.ByteArray e = never e (Err fault.UnknownName) (λ is. absurd (cc))
none_of_kind kind.Bytes e = refused_so e fault.UnknownName
none_of_kind (kind.Vector readonly) e = refused_so e fault.UnknownName

-- ---- a lemma for each edit

appending : (e : Exporter) (v : Value) → IsAsked e (passed (byte_in v)) (appended e v)
appending e v = passing e (byte_in v) _ (λ byte. asking e _ (λ u. done_so _))

inserting : (e : Exporter) (index v : Value) (lents : List Lent) → IsAsked e (byte_array_asks e (verb.Insert index v) lents) (inserted e index v)
inserting e index v lents = checked e (count_in index) _ _ (λ number. passing e (byte_in v) _ (λ byte. asking e _ (λ u. done_so _)))

repeating : (e : Exporter) (n : ℕ) → IsAsked e (Ok true) (repeated e n)
repeating e n = asking e _ (λ u. then_done (not (nat_lt (length e.bytes * n) (2 ^ 63))) fault.Overflow _ (λ is. absurd (cc)))

unless_empty : (e : Exporter) (b : Bool) (same : Exporter × LocalReply) (effect : Effect) → IsAsked e (Ok true) effect → IsAsked e (Ok (not b)) (if b then Ok same else effect)
unless_empty e true same effect asked = never e (Ok same) (done_so same)
unless_empty e false same effect asked = asked

unless_once : (e : Exporter) (b c : Bool) (same : Exporter × LocalReply) (effect : Effect) → IsAsked e (Ok (not c)) effect → IsAsked e (Ok (not b && not c)) (if b then Ok same else effect)
unless_once e true c same effect asked = never e (Ok same) (done_so same)
unless_once e false c same effect asked = asked

repeating_unless_empty : (e : Exporter) (n : ℕ) → IsAsked e (Ok (not (length e.bytes == 0))) (repeated_unless_empty e n)
repeating_unless_empty e n = unless_empty e (length e.bytes == 0) _ (repeated e n) (repeating e n)

multiplying : (e : Exporter) (count : Value) (lents : List Lent) → IsAsked e (byte_array_asks e (verb.IMul count) lents) (multiplied e count)
multiplying e count lents = checked e (count_in count) _ _ (λ number. unless_once e (is_one number) (length e.bytes == 0) _ (repeated_unless_empty e (times number)) (repeating_unless_empty e (times number)))

extending_by : (e : Exporter) (v : Value) (lents : List Lent) → IsAsked e (passed (bytes_in (snaps_of lents) v)) (extended e v lents)
extending_by e v lents = passing e (bytes_in (snaps_of lents) v) _ (λ bytes. asking e _ (λ u. done_so _))

either : (e : Exporter) (b : Bool) (a c : Result Bool Fault) (effect other : Effect) → IsAsked e a effect → IsAsked e c other → IsAsked e (if b then a else c) (if b then effect else other)
either e true a c effect other first second = first
either e false a c effect other first second = second

extending : (e : Exporter) (v : Value) (lents : List Lent) → IsAsked e (byte_array_asks e (verb.Extend v) lents) (extended_or_doubled e v lents)
extending e v lents = either e (is_itself v lents) _ _ (repeated_unless_empty e 2) (extended e v lents) (repeating_unless_empty e 2) (extending_by e v lents)

adding : (e : Exporter) (v : Value) (lents : List Lent) → IsAsked e (byte_array_asks e (verb.IAdd v) lents) (added e v lents)
adding e v lents = checked e (like_in (snaps_of lents) v) _ _ (λ bytes. checked e (unless (is_itself v lents) fault.Buffer) _ _ (λ u. asking e _ (λ u. done_so _)))

popping : (e : Exporter) (index : Option Value) → IsAsked e (passed (count_or_last index)) (popped e index)
popping e index = passing e (count_or_last index) _ (λ number. asking e _ (λ u. placed (item_place (length e.bytes) number) _))

removing : (e : Exporter) (v : Value) → IsAsked e (passed (byte_in v)) (removed e v)
removing e v = passing e (byte_in v) _ (λ byte. asking e _ (λ u. then_done (not (nat_lt (position_or_len (λ b. b == byte) e.bytes) (length e.bytes))) fault.Value _ (λ is. absurd (cc))))

clearing : (e : Exporter) → IsAsked e (Ok true) (cleared e)
clearing e = asking e _ (λ u. done_so _)

deleting_byte : (e : Exporter) (key : Value) → IsAsked e (passed (index_in key)) (byte_deleted e key)
deleting_byte e key = passing e (index_in key) _ (λ index. asking e _ (λ u. placed (item_place (length e.bytes) index) _))

deleting_slice : (e : Exporter) (slice : PySlice) → IsAsked e (passed (saturated_parts_of slice)) (slice_deleted e slice)
deleting_slice e slice = passing e (saturated_parts_of slice) _ (λ parts. asking e _ (λ u. done_so _))

deleting : (e : Exporter) (key : Value) → IsAsked e (key_passed key) (deleted e key)
deleting e (value.Slice slice) = deleting_slice e slice
deleting e (value.One s) = deleting_byte e (value.One s)
deleting e (value.Tuple parts) = deleting_byte e (value.Tuple parts)
deleting e (value.List parts) = deleting_byte e (value.List parts)
deleting e (value.Slices slices) = deleting_byte e (value.Slices slices)

taking : (e : Exporter) (b : Bool) → IsAsked e (if b then Ok true else Ok false) (if b then taken e else Err fault.UnknownName)
taking e true = asking e _ (λ u. done_so _)
taking e false = never e (Err fault.UnknownName) (λ is. absurd (cc))

-- A slice asks if it gets another number of bytes than it picks.
of_count : (e : Exporter) (b other : Bool) (effect : Effect) → has_exports e ≡ b → (is_buffer effect → ⊥) → IsAsked e (Ok other) (unless (b && other) fault.Buffer >>= λ _. effect)
of_count e true true effect is after = record { earlier = λ f is. absurd (cc); refused = λ asked live. refl; only = λ refusal. inl (refl, is) }
of_count e true false effect is after = never e effect after
of_count e false true effect is after = record { earlier = λ f is. absurd (cc); refused = λ asked live. absurd (true≢false (sym live ∙ is)); only = λ refusal. absurd (after refusal) }
of_count e false false effect is after = never e effect after

assigning_parts : (e : Exporter) (parts : SliceParts) (bytes : List ℕ) → IsAsked e (Ok (not (length (picks_of (length e.bytes) parts) == length bytes))) (assigned e parts bytes)
assigning_parts e parts bytes =
    of_count e (has_exports e) (not (length (picks_of (length e.bytes) parts) == length bytes)) _ refl
    (then_done (not (is_one parts.step) && not (length (picks_of (length e.bytes) parts) == length bytes)) fault.Value _ (λ is. absurd (cc)))

assigning : (e : Exporter) (slice : PySlice) (v : Value) (lents : List Lent) → IsAsked e (assignment_asks e (value.Slice slice) v lents) (slice_set e slice v lents)
assigning e slice v lents = checked e (saturated_parts_of slice) _ _ (λ parts. checked e (bytes_in (snaps_of lents) v) _ _ (λ bytes. assigning_parts e parts bytes))

initializing : (e : Exporter) (options : _) (lents : List Lent) → IsAsked e (byte_array_asks e (verb.Init options) lents) (initialized e options lents)
initializing e options lents = passing e (bytes_of_options (snaps_of lents) options.source options.encoding options.errors) _ (λ bytes. asking e _ (λ u. done_so _))

pub all_ask : EditsAskBeforeTheyResize
all_ask e (verb.Append v) lents = of_kind e.kind e (passed (byte_in v)) (appended e v) (appending e v)
all_ask e (verb.Extend v) lents = of_kind e.kind e _ (extended_or_doubled e v lents) (extending e v lents)
all_ask e (verb.Insert index v) lents = of_kind e.kind e _ (inserted e index v) (inserting e index v lents)
all_ask e (verb.Pop index) lents = of_kind e.kind e (passed (count_or_last index)) (popped e index) (popping e index)
all_ask e (verb.Remove v) lents = of_kind e.kind e (passed (byte_in v)) (removed e v) (removing e v)
all_ask e verb.Clear lents = of_kind e.kind e (Ok true) (cleared e) (clearing e)
all_ask e verb.Reverse lents = of_kind e.kind e (Ok false) (Ok (with_bytes e (reverse e.bytes))) (never e _ (done_so _))
all_ask e (verb.Del key) lents = of_kind e.kind e (key_passed key) (deleted e key) (deleting e key)
all_ask e (verb.IAdd v) lents = of_kind e.kind e _ (added e v lents) (adding e v lents)
all_ask e (verb.IMul count) lents = of_kind e.kind e _ (multiplied e count) (multiplying e count lents)
all_ask e (verb.Init options) lents = of_kind e.kind e _ (initialized e options lents) (initializing e options lents)
all_ask e verb.Take lents = taking e (is_vector e.kind)
all_ask e verb.Copy lents = of_kind e.kind e (Ok false) _ (never e _ (done_so _))
all_ask e (verb.Set (value.Slice slice) v) lents = of_kind e.kind e _ (slice_set e slice v lents) (assigning e slice v lents)
all_ask e (verb.Set (value.One s) v) lents = none_of_kind e.kind e
all_ask e (verb.Set (value.Tuple parts) v) lents = none_of_kind e.kind e
all_ask e (verb.Set (value.List parts) v) lents = none_of_kind e.kind e
all_ask e (verb.Set (value.Slices slices) v) lents = none_of_kind e.kind e
all_ask e verb.View lents = none_of_kind e.kind e
all_ask e (verb.Range from to) lents = none_of_kind e.kind e
all_ask e (verb.Get key) lents = none_of_kind e.kind e
all_ask e (verb.Cast format shape) lents = none_of_kind e.kind e
all_ask e (verb.CastF format shape) lents = none_of_kind e.kind e
all_ask e (verb.ToBytes order) lents = none_of_kind e.kind e
all_ask e verb.Release lents = none_of_kind e.kind e
all_ask e verb.Enter lents = none_of_kind e.kind e
all_ask e verb.Exit lents = none_of_kind e.kind e
all_ask e verb.ToContiguous lents = none_of_kind e.kind e
all_ask e verb.ToList lents = none_of_kind e.kind e
all_ask e verb.Len lents = none_of_kind e.kind e
all_ask e (verb.Property name) lents = none_of_kind e.kind e
all_ask e verb.ToReadonly lents = none_of_kind e.kind e
all_ask e (verb.Compare op other) lents = none_of_kind e.kind e
all_ask e verb.Hash lents = none_of_kind e.kind e
all_ask e verb.Repr lents = none_of_kind e.kind e
all_ask e verb.Iter lents = none_of_kind e.kind e
all_ask e verb.Next lents = none_of_kind e.kind e
all_ask e verb.LengthHint lents = none_of_kind e.kind e
all_ask e (verb.SetState state) lents = none_of_kind e.kind e
all_ask e (verb.Contains v) lents = none_of_kind e.kind e
all_ask e (verb.Hex sep group) lents = none_of_kind e.kind e
all_ask e (verb.Call method) lents = none_of_kind e.kind e
