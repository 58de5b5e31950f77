-- An edit, and every effect on the exporter itself, is the same on an exporter that has forgotten.
use Rattle.std.proofs.Common.{◌≡◌, ℕ, List, [], Bool, ap, refl, length}
use Rattle.std.specs.Prelude.{◌==◌, ◌*◌, ◌^◌, ◌&&◌, not, nat_lt, Option}
use Rattle.std.specs.List.{position_or_len}
use Rattle.pybuf_value.specs.declared.faults.Fault.TheVariants as fault
use Rattle.pybuf_value.specs.declared.values.PySlice.{PySlice}
use Rattle.pybuf_value.specs.declared.values.Value.{Value}
use Rattle.pybuf_value.specs.declared.values.Value.TheVariants as value
use Rattle.pybuf_value.specs.Numbers.{count_in, byte_in, times}
use Rattle.pybuf_value.specs.Refusing.{◌>>=◌, unless}
use Rattle.pybuf_value.specs.Snaps.{bytes_in, like_in}
use Rattle.pybuf_index.specs.Parts.{SliceParts, saturated_parts_of, picks_of}
use Rattle.pybuf_index.specs.Places.{entry_in}
use Rattle.pybuf_slice.specs.Edits.{is_one}
use Rattle.pybuf_bytes.specs.Options.{bytes_of_options}
use Rattle.pybuf_command.specs.declared.commands.Verb.{Verb}
use Rattle.pybuf_command.specs.declared.commands.Verb.TheVariants as verb
use Rattle.pybuf_command.specs.declared.commands.LocalReply.TheVariants as reply
use Rattle.pybuf_command.specs.declared.options.ByteInnerNewOptions.{ByteInnerNewOptions}
use Rattle.pybuf_memoryview.specs.Items.{index_in}
use Rattle.pybuf_state.specs.Exporter.{Exporter}
use Rattle.pybuf_state.specs.Keeps.{is_vector}
use Rattle.pybuf_state.specs.Loans.{Lent, snaps_of}
use Rattle.pybuf_state.specs.Resizing.{has_exports, resizable}
use Rattle.pybuf_verbs_edits.specs.Common.{is_itself}
use Rattle.pybuf_verbs_edits.specs.Growing as growing
use Rattle.pybuf_verbs_edits.specs.Shrinking as shrinking
use Rattle.pybuf_verbs_edits.specs.Replacing as replacing
use Rattle.pybuf_exporter.specs.Step.{effect_on_own, set_in_own}
use Rattle.pybuf_forgetting.specs.Forgotten.{forgotten}
use Rattle.pybuf_forgetting.proofs.Basics.{exports_same}
use Rattle.pybuf_forgetting.proofs.Effects as effects
use Rattle.pybuf_forgetting.proofs.Effects.{Effect, told, told_bind, told_after, told_if, told_same, told_bytes, of_kind}

exported_same : (e : Exporter) → has_exports (forgotten e) ≡ has_exports e
exported_same e = ap (λ (n : ℕ). nat_lt 0 n) (exports_same e)

-- an effect that needs another length to be allowed
resized : (e : Exporter) (f g : Bool → Effect) → ((b : Bool) → told (f b) ≡ told (g b)) → told (resizable (forgotten e) >>= f) ≡ told (resizable e >>= g)
resized e f g each = told_bind (resizable (forgotten e)) (resizable e) f g (ap (λ (b : Bool). unless b fault.Buffer) (exported_same e)) each

append_of_own : (e : Exporter) (v : Value) → told (growing.append_of_own (forgotten e) v) ≡ told (growing.append_of_own e v)
append_of_own e v = of_kind e.kind (growing.appended (forgotten e) v) (growing.appended e v) (told_after (byte_in v) _ _ (λ byte. resized e _ _ (λ _. told_bytes e _ reply.Ok)))

insert_of_own : (e : Exporter) (index v : Value) → told (growing.insert_of_own (forgotten e) index v) ≡ told (growing.insert_of_own e index v)
insert_of_own e index v =
    of_kind e.kind (growing.inserted (forgotten e) index v) (growing.inserted e index v)
    (told_after (count_in index) _ _ (λ number. told_after (byte_in v) _ _ (λ byte. resized e _ _ (λ _. told_bytes e _ reply.Ok))))

repeated : (e : Exporter) (n : ℕ) → told (growing.repeated (forgotten e) n) ≡ told (growing.repeated e n)
repeated e n = resized e _ _ (λ _. told_after (unless (not (nat_lt (length e.bytes * n) (2 ^ 63))) fault.Overflow) _ _ (λ _. told_bytes e _ reply.Ok))

repeated_unless_empty : (e : Exporter) (n : ℕ) → told (growing.repeated_unless_empty (forgotten e) n) ≡ told (growing.repeated_unless_empty e n)
repeated_unless_empty e n = told_if (length e.bytes == 0) _ _ _ _ (told_same e reply.Ok) (repeated e n)

imul_of_own : (e : Exporter) (count : Value) → told (growing.imul_of_own (forgotten e) count) ≡ told (growing.imul_of_own e count)
imul_of_own e count =
    of_kind e.kind (growing.multiplied (forgotten e) count) (growing.multiplied e count)
    (told_after (count_in count) _ _ (λ number. told_if (is_one number) _ _ _ _ (told_same e reply.Ok) (repeated_unless_empty e (times number))))

extend_of_own : (e : Exporter) (v : Value) (lents : List Lent) → told (growing.extend_of_own (forgotten e) v lents) ≡ told (growing.extend_of_own e v lents)
extend_of_own e v lents =
    of_kind e.kind (growing.extended_or_doubled (forgotten e) v lents) (growing.extended_or_doubled e v lents)
    (told_if (is_itself v lents) _ _ _ _ (repeated_unless_empty e 2) (told_after (bytes_in (snaps_of lents) v) _ _ (λ bytes. resized e _ _ (λ _. told_bytes e _ reply.Ok))))

iadd_of_own : (e : Exporter) (v : Value) (lents : List Lent) → told (growing.iadd_of_own (forgotten e) v lents) ≡ told (growing.iadd_of_own e v lents)
iadd_of_own e v lents =
    of_kind e.kind (growing.added (forgotten e) v lents) (growing.added e v lents)
    (told_after (like_in (snaps_of lents) v) _ _ (λ bytes. told_after (unless (is_itself v lents) fault.Buffer) _ _ (λ _. resized e _ _ (λ _. told_bytes e _ reply.Ok))))

pop_of_own : (e : Exporter) (index : Option Value) → told (shrinking.pop_of_own (forgotten e) index) ≡ told (shrinking.pop_of_own e index)
pop_of_own e index =
    of_kind e.kind (shrinking.popped (forgotten e) index) (shrinking.popped e index)
    (told_after (shrinking.count_or_last index) _ _ (λ number. resized e _ _ (λ _. told_after (entry_in (length e.bytes) number) _ _ (λ place. told_bytes e _ _))))

remove_of_own : (e : Exporter) (v : Value) → told (shrinking.remove_of_own (forgotten e) v) ≡ told (shrinking.remove_of_own e v)
remove_of_own e v =
    of_kind e.kind (shrinking.removed (forgotten e) v) (shrinking.removed e v)
    (told_after (byte_in v) _ _ (λ byte. resized e _ _ (λ _.
    told_after (unless (not (nat_lt (position_or_len (λ b. b == byte) e.bytes) (length e.bytes))) fault.Value) _ _ (λ _. told_bytes e _ reply.Ok))))

clear_of_own : (e : Exporter) → told (shrinking.clear_of_own (forgotten e)) ≡ told (shrinking.clear_of_own e)
clear_of_own e = of_kind e.kind (shrinking.cleared (forgotten e)) (shrinking.cleared e) (resized e _ _ (λ _. told_bytes e [] reply.Ok))

byte_deleted : (e : Exporter) (key : Value) → told (shrinking.byte_deleted (forgotten e) key) ≡ told (shrinking.byte_deleted e key)
byte_deleted e key = told_after (index_in key) _ _ (λ index. resized e _ _ (λ _. told_after (entry_in (length e.bytes) index) _ _ (λ place. told_bytes e _ reply.Ok)))

deleted : (e : Exporter) (key : Value) → told (shrinking.deleted (forgotten e) key) ≡ told (shrinking.deleted e key)
deleted e (value.Slice slice) = told_after (saturated_parts_of slice) _ _ (λ parts. resized e _ _ (λ _. told_bytes e _ reply.Ok))
deleted e (value.One s) = byte_deleted e (value.One s)
deleted e (value.Tuple parts) = byte_deleted e (value.Tuple parts)
deleted e (value.List parts) = byte_deleted e (value.List parts)
deleted e (value.Slices slices) = byte_deleted e (value.Slices slices)

delete_of_own : (e : Exporter) (key : Value) → told (shrinking.delete_of_own (forgotten e) key) ≡ told (shrinking.delete_of_own e key)
delete_of_own e key = of_kind e.kind (shrinking.deleted (forgotten e) key) (shrinking.deleted e key) (deleted e key)

take_of_own : (e : Exporter) → told (shrinking.take_of_own (forgotten e)) ≡ told (shrinking.take_of_own e)
take_of_own e = told_if (is_vector e.kind) _ _ _ _ (resized e _ _ (λ _. told_bytes e [] (reply.Bytes e.bytes))) refl

assigned : (e : Exporter) (parts : SliceParts) (bytes : List ℕ) → told (replacing.assigned (forgotten e) parts bytes) ≡ told (replacing.assigned e parts bytes)
assigned e parts bytes =
    told_bind _ _ _ _ (ap (λ (b : Bool). unless (b && not (length (picks_of (length e.bytes) parts) == length bytes)) fault.Buffer) (exported_same e)) (λ _.
    told_after (unless (not (is_one parts.step) && not (length (picks_of (length e.bytes) parts) == length bytes)) fault.Value) _ _ (λ _. told_bytes e _ reply.Ok))

assign_of_own : (e : Exporter) (slice : PySlice) (v : Value) (lents : List Lent) → told (replacing.assign_of_own (forgotten e) slice v lents) ≡ told (replacing.assign_of_own e slice v lents)
assign_of_own e slice v lents =
    of_kind e.kind (replacing.slice_set (forgotten e) slice v lents) (replacing.slice_set e slice v lents)
    (told_after (saturated_parts_of slice) _ _ (λ parts. told_after (bytes_in (snaps_of lents) v) _ _ (λ bytes. assigned e parts bytes)))

init_of_own : (e : Exporter) (given : ByteInnerNewOptions) (lents : List Lent) → told (replacing.init_of_own (forgotten e) given lents) ≡ told (replacing.init_of_own e given lents)
init_of_own e given lents =
    of_kind e.kind (replacing.initialized (forgotten e) given lents) (replacing.initialized e given lents)
    (told_after (bytes_of_options (snaps_of lents) given.source given.encoding given.errors) _ _ (λ bytes. resized e _ _ (λ _. told_bytes e bytes reply.Ok)))

reverse_of_own : (e : Exporter) → told (replacing.reverse_of_own (forgotten e)) ≡ told (replacing.reverse_of_own e)
reverse_of_own e = of_kind e.kind _ _ (told_bytes e _ reply.Ok)

copy_of_own : (e : Exporter) → told (replacing.copy_of_own (forgotten e)) ≡ told (replacing.copy_of_own e)
copy_of_own e = of_kind e.kind _ _ (told_same e _)

set_own : (e : Exporter) (key v : Value) (lents : List Lent) → told (set_in_own (forgotten e) key v lents) ≡ told (set_in_own e key v lents)
set_own e (value.Slice slice) v lents = assign_of_own e slice v lents
set_own e (value.One s) v lents = effects.set_of_own e (value.One s) v
set_own e (value.Tuple parts) v lents = effects.set_of_own e (value.Tuple parts) v
set_own e (value.List parts) v lents = effects.set_of_own e (value.List parts) v
set_own e (value.Slices slices) v lents = effects.set_of_own e (value.Slices slices) v

pub own_effect : (e : Exporter) (v : Verb) (lents : List Lent) → told (effect_on_own (forgotten e) v lents) ≡ told (effect_on_own e v lents)
own_effect e verb.View lents = effects.view_of_own e
own_effect e (verb.Range from to) lents = effects.range_of_own e from to
own_effect e (verb.Get key) lents = effects.get_of_own e key
own_effect e (verb.Set key v) lents = set_own e key v lents
own_effect e (verb.ToBytes order) lents = effects.bytes_of_own e order
own_effect e verb.Len lents = effects.len_of_own e
own_effect e (verb.Property p) lents = effects.property_of_own e p
own_effect e (verb.Compare op other) lents = effects.compare_of_own e op other lents
own_effect e verb.Hash lents = effects.hash_of_own e
own_effect e verb.Repr lents = effects.repr_of_own e
own_effect e verb.Iter lents = effects.iter_of_own e
own_effect e (verb.Contains v) lents = effects.contains_of_own e v (snaps_of lents)
own_effect e (verb.Call method) lents = effects.call_of_own e method (snaps_of lents)
own_effect e (verb.Append v) lents = append_of_own e v
own_effect e (verb.Extend v) lents = extend_of_own e v lents
own_effect e (verb.Insert index v) lents = insert_of_own e index v
own_effect e (verb.Pop index) lents = pop_of_own e index
own_effect e (verb.Remove v) lents = remove_of_own e v
own_effect e verb.Clear lents = clear_of_own e
own_effect e verb.Reverse lents = reverse_of_own e
own_effect e (verb.Del key) lents = delete_of_own e key
own_effect e (verb.IAdd v) lents = iadd_of_own e v lents
own_effect e (verb.IMul count) lents = imul_of_own e count
own_effect e (verb.Init given) lents = init_of_own e given lents
own_effect e verb.Take lents = take_of_own e
own_effect e verb.Copy lents = copy_of_own e
own_effect e _ lents = refl
