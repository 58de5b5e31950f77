-- What has changed if a reply owns memory, effect by effect.
use Rattle.std.proofs.Common.{◌≡◌, ◌⊎◌, inl, inr, ℕ, List, [], ◌∷◌, Bool, true, false, true≢false, ap, refl, arith, zero, suc, ◌+◌, set, subst, length}
use Rattle.std.specs.Prelude.{◌*◌, ◌^◌, ◌==◌, not, reverse, Option, Some, None, Result, Ok, Err, slice_get, nat_lt, if◌then◌else◌}
use Rattle.std.specs.List.{position_or_len}
use Rattle.std.proofs.lemmas.List.{length-set}
use Rattle.std.proofs.lemmas.Option.{slice_get_within}
use Rattle.pybuf_lemmas.proofs.Booleans.{false_is_not_true}
use Rattle.pybuf_lemmas.proofs.Lists.{set_to_itself}
use Rattle.pybuf_state.specs.Facts.{iterator_given}
use Rattle.pybuf_value.specs.declared.faults.Fault.{Fault}
use Rattle.pybuf_value.specs.declared.faults.Fault.TheVariants as fault
use Rattle.pybuf_value.specs.declared.values.Item.{Item}
use Rattle.pybuf_value.specs.declared.values.PySlice.{PySlice}
use Rattle.pybuf_value.specs.declared.values.Value.{Value}
use Rattle.pybuf_value.specs.declared.values.Value.TheVariants as value
use Rattle.pybuf_value.specs.Refusing.{◌>>=◌, unless, IfDone, done_bind}
use Rattle.pybuf_value.specs.Numbers.{number_of, count_in, byte_in, times}
use Rattle.pybuf_value.specs.Order.{is_order}
use Rattle.pybuf_value.specs.Snaps.{like_in, bytes_in}
use Rattle.pybuf_value.specs.Texts.{text_in, fitted}
use Rattle.pybuf_index.specs.Parts.{saturated_parts_of}
use Rattle.pybuf_index.specs.Places.{entry_in}
use Rattle.pybuf_methods.specs.Methods.{method_reply}
use Rattle.pybuf_methods.specs.Sought.{contains_in}
use Rattle.pybuf_methods.specs.Shaped.{hex_of}
use Rattle.pybuf_desc.specs.Contiguous.{is_contiguous_layout}
use Rattle.pybuf_desc.specs.Items.{content_of_layout}
use Rattle.pybuf_memoryview.specs.Items.{index_in, has_dimensions, piece_by}
use Rattle.pybuf_memoryview.specs.Keys.{item_of_key, names_itself}
use Rattle.pybuf_command.specs.declared.kinds.ExporterKind.{ExporterKind}
use Rattle.pybuf_command.specs.declared.kinds.ExporterKind.TheVariants as kind
use Rattle.pybuf_command.specs.Kinds.{of_byte_array, holds_readonly}
use Rattle.pybuf_command.specs.declared.commands.PropertyName.{PropertyName}
use Rattle.pybuf_command.specs.declared.commands.PropertyName.TheVariants as name
use Rattle.pybuf_command.specs.declared.kinds.Subject.{Subject}
use Rattle.pybuf_command.specs.declared.kinds.Subject.TheVariants as subject
use Rattle.pybuf_command.specs.declared.commands.Verb.{Verb}
use Rattle.pybuf_command.specs.declared.commands.Verb.TheVariants as verb
use Rattle.pybuf_command.specs.declared.commands.LocalReply.{LocalReply}
use Rattle.pybuf_command.specs.declared.commands.LocalReply.TheVariants as reply
use Rattle.pybuf_command.specs.Handles.{handles_of, handles_read}
use Rattle.pybuf_state.specs.Exporter.{Exporter, Iterator, iterator_at, iterator_put, live_layout, view_at, released_in}
use Rattle.pybuf_state.specs.Keeps.{is_vector}
use Rattle.pybuf_state.specs.Resizing.{resizable}
use Rattle.pybuf_state.specs.Snaps.{snap_of_exporter}
use Rattle.pybuf_state.specs.Loans.{Lent, are_named, lents_by, names_of, snaps_of}
use Rattle.pybuf_verbs_views.specs.Cast.{layout_in_shape, column_layout_in}
use Rattle.pybuf_verbs_reads.specs.ToBytes.{is_column_order}
use Rattle.pybuf_verbs_views.specs.Range.{part_between}
use Rattle.pybuf_verbs_reads.specs.Get.{get_in_kind, byte_of_own, part_of_own, item_of_layout, item_of_view}
use Rattle.pybuf_verbs_reads.specs.Property.{property_of_own, property_of_layout, is_exports}
use Rattle.pybuf_verbs_compare.specs.Compare.{has_no_order_with, other_in}
use Rattle.pybuf_verbs_compare.specs.Repr.{shown_bytes}
use Rattle.pybuf_verbs_writes.specs.Set.{byte_set, set_of_own, set_target, set_of_view}
use Rattle.pybuf_verbs_writes.specs.Assign.{assign_target, source_in, has_form_of, assign_of_view}
use Rattle.pybuf_verbs_edits.specs.Common.{with_bytes, is_itself}
use Rattle.pybuf_verbs_edits.specs.Shrinking.{count_or_last, popped, removed, cleared, byte_deleted, deleted}
use Rattle.pybuf_verbs_edits.specs.Replacing.{slice_set, assign_of_own, initialized}
use Rattle.pybuf_verbs_edits.specs.Growing.{appended, inserted, repeated, repeated_unless_empty, extended, extended_or_doubled, multiplied, added}
use Rattle.pybuf_verbs_iters.specs.Iterators.{item_over, moved_on, next_unless, put_unless, iterator_over_bytes, effect_on_iterator}
use Rattle.pybuf_exporter.specs.Step.{get_of_view, set_through_view, set_in_own, effect, effect_on_own, effect_on_view, settled_answer}
use Rattle.pybuf_exporter.specs.Owning.{reply_owns, hands_over, OwningRepliesChangeNothing, TakenBytesAreAll, NextIsUndone, NoIteratorHasNoNext}

-- The reply owns no memory, or nothing changed.
abbrev IsPlainOrSame : Exporter → Exporter × LocalReply → Type 0
IsPlainOrSame e after = reply_owns after.1 ≡ true → after.0 ≡ e

bind : {A : Type 0} (e : Exporter) (r : Result A Fault) (f : A → Result (Exporter × LocalReply) Fault) → ((a : A) → IfDone (IsPlainOrSame e) (f a)) → IfDone (IsPlainOrSame e) (r >>= f)
bind e r f after = done_bind (IsPlainOrSame e) r f (λ a _. after a)

-- ---- what effects have in common

in_byte_array : (e : Exporter) (k : ExporterKind) (r : Result (Exporter × LocalReply) Fault) → IfDone (IsPlainOrSame e) r → IfDone (IsPlainOrSame e) (of_byte_array k r)
in_byte_array e kind.ByteArray r done = done
in_byte_array e kind.Bytes r done = tt
in_byte_array e (kind.Vector readonly) r done = tt

in_kind : (e : Exporter) (k : ExporterKind) (r : Result (Exporter × LocalReply) Fault) → IfDone (IsPlainOrSame e) r → IfDone (IsPlainOrSame e) (get_in_kind k r)
in_kind e kind.ByteArray r done = done
in_kind e kind.Bytes r done = done
in_kind e (kind.Vector readonly) r done = tt

chosen : (e : Exporter) (b : Bool) (r s : Result (Exporter × LocalReply) Fault) → IfDone (IsPlainOrSame e) r → IfDone (IsPlainOrSame e) s → IfDone (IsPlainOrSame e) (if b then r else s)
chosen e true r s this that = this
chosen e false r s this that = that

-- ---- effects of an exporter itself

own_byte : (e : Exporter) (key : Value) → IfDone (IsPlainOrSame e) (byte_of_own e key)
own_byte e key = bind e (index_in key) _ (λ index. bind e (entry_in (length e.bytes) index) _ (λ place is. refl))

own_part : (e : Exporter) (key : Value) → IfDone (IsPlainOrSame e) (part_of_own e key)
own_part e (value.Slice slice) = bind e (saturated_parts_of slice) _ (λ parts is. refl)
own_part e (value.One s) = own_byte e (value.One s)
own_part e (value.Tuple parts) = own_byte e (value.Tuple parts)
own_part e (value.List parts) = own_byte e (value.List parts)
own_part e (value.Slices slices) = own_byte e (value.Slices slices)

own_written : (e : Exporter) (key v : Value) → IfDone (IsPlainOrSame e) (set_of_own e key v)
own_written e key v = in_byte_array e e.kind (byte_set e key v) (bind e (index_in key) _ (λ index. bind e (byte_in v) _ (λ byte. bind e (entry_in (length e.bytes) index) _ (λ place is. false_is_not_true is))))

-- If both checks pass, there are other bytes.
own_laid : (e : Exporter) (asked stepped : Result Bool Fault) (bytes : List ℕ) → IfDone (IsPlainOrSame e) (asked >>= λ _. stepped >>= λ _. Ok (with_bytes e bytes))
own_laid e asked stepped bytes = bind e asked _ (λ _. bind e stepped _ (λ _ is. false_is_not_true is))

own_assigned : (e : Exporter) (slice : PySlice) (v : Value) (lents : List Lent) → IfDone (IsPlainOrSame e) (assign_of_own e slice v lents)
own_assigned e slice v lents = in_byte_array e e.kind (slice_set e slice v lents) (bind e (saturated_parts_of slice) _ (λ parts. bind e (bytes_in (snaps_of lents) v) _ (λ bytes. own_laid e _ _ _)))

own_set : (e : Exporter) (key v : Value) (lents : List Lent) → IfDone (IsPlainOrSame e) (set_in_own e key v lents)
own_set e (value.Slice slice) v lents = own_assigned e slice v lents
own_set e (value.One s) v lents = own_written e (value.One s) v
own_set e (value.Tuple parts) v lents = own_written e (value.Tuple parts) v
own_set e (value.List parts) v lents = own_written e (value.List parts) v
own_set e (value.Slices slices) v lents = own_written e (value.Slices slices) v

own_repeated : (e : Exporter) (n : ℕ) → IfDone (IsPlainOrSame e) (repeated_unless_empty e n)
own_repeated e n =
    chosen e (length e.bytes == 0) (Ok (e, reply.Ok)) (repeated e n) (λ is. refl)
    (bind e (resizable e) _ (λ _. bind e (unless (not (nat_lt (length e.bytes * n) (2 ^ 63))) fault.Overflow) _ (λ _ is. false_is_not_true is)))

own_byte_deleted : (e : Exporter) (key : Value) → IfDone (IsPlainOrSame e) (byte_deleted e key)
own_byte_deleted e key = bind e (index_in key) _ (λ index. bind e (resizable e) _ (λ _. bind e (entry_in (length e.bytes) index) _ (λ place is. false_is_not_true is)))

own_deleted : (e : Exporter) (key : Value) → IfDone (IsPlainOrSame e) (deleted e key)
own_deleted e (value.Slice slice) = bind e (saturated_parts_of slice) _ (λ parts. bind e (resizable e) _ (λ _ is. false_is_not_true is))
own_deleted e (value.One s) = own_byte_deleted e (value.One s)
own_deleted e (value.Tuple parts) = own_byte_deleted e (value.Tuple parts)
own_deleted e (value.List parts) = own_byte_deleted e (value.List parts)
own_deleted e (value.Slices slices) = own_byte_deleted e (value.Slices slices)

own_property : (e : Exporter) (p : PropertyName) → IfDone (IsPlainOrSame e) (property_of_own e p)
own_property e name.Exports = λ is. refl
own_property e name.Obj = tt
own_property e name.Nbytes = tt
own_property e name.Readonly = tt
own_property e name.Itemsize = tt
own_property e name.Ndim = tt
own_property e name.Shape = tt
own_property e name.Strides = tt
own_property e name.Suboffsets = tt
own_property e name.Format = tt
own_property e name.Contiguous = tt
own_property e name.CContiguous = tt
own_property e name.FContiguous = tt

own_effect : (e : Exporter) (v : Verb) (lents : List Lent) → hands_over subject.Own v ≡ false → IfDone (IsPlainOrSame e) (effect_on_own e v lents)
own_effect e verb.View lents other = λ is. false_is_not_true is
own_effect e (verb.Range from to) lents other = bind e (number_of from) _ (λ first. bind e (number_of to) _ (λ end. bind e (part_between (length e.bytes) first end) _ (λ part is. false_is_not_true is)))
own_effect e (verb.Get key) lents other = in_kind e e.kind (part_of_own e key) (own_part e key)
own_effect e (verb.Set key v) lents other = own_set e key v lents
own_effect e (verb.ToBytes None) lents other = λ is. refl
own_effect e (verb.ToBytes (Some order)) lents other = tt
own_effect e verb.Len lents other = λ is. refl
own_effect e (verb.Property p) lents other = own_property e p
own_effect e (verb.Compare op v) lents other =
    bind e (unless (is_vector e.kind) fault.UnknownName) _ (λ _. bind e (unless (has_no_order_with e.kind op (other_in v lents)) fault.Kind) _ (λ _ is. refl))
own_effect e verb.Hash lents other = bind e (unless (is_vector e.kind) fault.UnknownName) _ (λ _. bind e (unless (not (holds_readonly e.kind)) fault.Kind) _ (λ _ is. refl))
own_effect e verb.Repr lents other = bind e (unless (is_vector e.kind) fault.UnknownName) _ (λ _. bind e (fitted (shown_bytes e.kind e.bytes)) _ (λ text is. refl))
own_effect e verb.Iter lents other = bind e (unless (is_vector e.kind) fault.UnknownName) _ (λ _ is. false_is_not_true is)
own_effect e (verb.Contains v) lents other = bind e (unless (is_vector e.kind) fault.UnknownName) _ (λ _. bind e (contains_in (snaps_of lents) e.bytes v) _ (λ found is. refl))
own_effect e (verb.Call call) lents other = bind e (unless (is_vector e.kind) fault.UnknownName) _ (λ _. bind e (method_reply (snaps_of lents) e.bytes call.name call.args) _ (λ given is. refl))
own_effect e (verb.Append v) lents other = in_byte_array e e.kind (appended e v) (bind e (byte_in v) _ (λ byte. bind e (resizable e) _ (λ _ is. false_is_not_true is)))
own_effect e (verb.Extend v) lents other =
    in_byte_array e e.kind (extended_or_doubled e v lents)
    (chosen e (is_itself v lents) (repeated_unless_empty e 2) (extended e v lents) (own_repeated e 2) (bind e (bytes_in (snaps_of lents) v) _ (λ bytes. bind e (resizable e) _ (λ _ is. false_is_not_true is))))
own_effect e (verb.Insert index v) lents other =
    in_byte_array e e.kind (inserted e index v) (bind e (count_in index) _ (λ number. bind e (byte_in v) _ (λ byte. bind e (resizable e) _ (λ _ is. false_is_not_true is))))
own_effect e (verb.Pop index) lents other =
    in_byte_array e e.kind (popped e index) (bind e (count_or_last index) _ (λ number. bind e (resizable e) _ (λ _. bind e (entry_in (length e.bytes) number) _ (λ place is. false_is_not_true is))))
own_effect e (verb.Remove v) lents other =
    in_byte_array e e.kind (removed e v)
    (bind e (byte_in v) _ (λ byte. bind e (resizable e) _ (λ _. bind e (unless (not (nat_lt (position_or_len (λ b. b == byte) e.bytes) (length e.bytes))) fault.Value) _ (λ _ is. false_is_not_true is))))
own_effect e verb.Clear lents other = in_byte_array e e.kind (cleared e) (bind e (resizable e) _ (λ _ is. false_is_not_true is))
own_effect e verb.Reverse lents other = in_byte_array e e.kind (Ok (with_bytes e (reverse e.bytes))) (λ is. false_is_not_true is)
own_effect e (verb.Del key) lents other = in_byte_array e e.kind (deleted e key) (own_deleted e key)
own_effect e (verb.IAdd v) lents other =
    in_byte_array e e.kind (added e v lents)
    (bind e (like_in (snaps_of lents) v) _ (λ bytes. bind e (unless (is_itself v lents) fault.Buffer) _ (λ _. bind e (resizable e) _ (λ _ is. false_is_not_true is))))
own_effect e (verb.IMul count) lents other =
    in_byte_array e e.kind (multiplied e count)
    (bind e (count_in count) _ (λ number. chosen e _ (Ok (e, reply.Ok)) (repeated_unless_empty e (times number)) (λ is. refl) (own_repeated e (times number))))
own_effect e (verb.Init options) lents other =
    in_byte_array e e.kind (initialized e options lents)
    (bind e _ _ (λ bytes. bind e (resizable e) _ (λ _ is. false_is_not_true is)))
own_effect e verb.Take lents other = absurd (true≢false other)
own_effect e verb.Copy lents other = in_byte_array e e.kind (Ok (e, reply.Fresh (snap_of_exporter e))) (λ is. refl)
own_effect e (verb.Cast format shape) lents other = tt
own_effect e (verb.CastF format shape) lents other = tt
own_effect e verb.Release lents other = tt
own_effect e verb.Enter lents other = tt
own_effect e verb.Exit lents other = tt
own_effect e verb.ToContiguous lents other = tt
own_effect e verb.ToList lents other = tt
own_effect e verb.ToReadonly lents other = tt
own_effect e verb.Next lents other = tt
own_effect e verb.LengthHint lents other = tt
own_effect e (verb.SetState state) lents other = tt
own_effect e (verb.Hex sep group) lents other = tt

-- ---- effects of a view

view_item : (e : Exporter) (k : ℕ) (key : Value) → IfDone (IsPlainOrSame e) (item_of_view e k key)
view_item e k key =
    bind e (live_layout e k) _ (λ layout.
    chosen e (names_itself layout.shape key) (Ok (e, reply.Itself)) (item_of_layout e layout key) (λ is. refl) (bind e (item_of_key layout.shape key) _ (λ item is. refl)))

view_get : (e : Exporter) (k : ℕ) (key : Value) → IfDone (IsPlainOrSame e) (get_of_view e k key)
view_get e k (value.Slice slice) = bind e (live_layout e k) _ (λ layout. bind e (has_dimensions layout) _ (λ _. bind e (saturated_parts_of slice) _ (λ parts is. false_is_not_true is)))
view_get e k (value.One s) = view_item e k (value.One s)
view_get e k (value.Tuple parts) = view_item e k (value.Tuple parts)
view_get e k (value.List parts) = view_item e k (value.List parts)
view_get e k (value.Slices slices) = view_item e k (value.Slices slices)

view_written : (e : Exporter) (k : ℕ) (key v : Value) (lents : List Lent) → IfDone (IsPlainOrSame e) (set_of_view e k key v lents)
view_written e k key v lents = bind e (set_target e k key v) _ (λ target. bind e (piece_by target.0.format (snaps_of lents) v) _ (λ piece is. false_is_not_true is))

view_assigned : (e : Exporter) (k : ℕ) (slice : PySlice) (v : Value) (lents : List Lent) → IfDone (IsPlainOrSame e) (assign_of_view e k slice v lents)
view_assigned e k slice v lents =
    bind e (assign_target e k slice v) _ (λ target. bind e (source_in v lents) _ (λ source.
    bind e (unless source.released fault.Value) _ (λ _. bind e (unless (not (has_form_of target source.format source.itemsize source.shape)) fault.Value) _ (λ _ is. false_is_not_true is))))

view_set : (e : Exporter) (k : ℕ) (key v : Value) (lents : List Lent) → IfDone (IsPlainOrSame e) (set_through_view e k key v lents)
view_set e k (value.Slice slice) v lents = view_assigned e k slice v lents
view_set e k (value.One s) v lents = view_written e k (value.One s) v lents
view_set e k (value.Tuple parts) v lents = view_written e k (value.Tuple parts) v lents
view_set e k (value.List parts) v lents = view_written e k (value.List parts) v lents
view_set e k (value.Slices slices) v lents = view_written e k (value.Slices slices) v lents

view_effect : (e : Exporter) (k : ℕ) (v : Verb) (lents : List Lent) → IfDone (IsPlainOrSame e) (effect_on_view e k v lents)
view_effect e k verb.View lents = bind e (live_layout e k) _ (λ layout is. false_is_not_true is)
view_effect e k (verb.Get key) lents = view_get e k key
view_effect e k (verb.Set key v) lents = view_set e k key v lents
view_effect e k (verb.Cast format shape) lents =
    bind e (live_layout e k) _ (λ layout. bind e (unless (not (is_contiguous_layout layout)) fault.Kind) _ (λ _. bind e (text_in format) _ (λ text. bind e (layout_in_shape layout text shape) _ (λ cast is. false_is_not_true is))))
view_effect e k (verb.CastF format shape) lents =
    bind e (live_layout e k) _ (λ layout. bind e (unless (not (is_contiguous_layout layout)) fault.Kind) _ (λ _. bind e (text_in format) _ (λ text. bind e (column_layout_in layout text shape) _ (λ cast is. false_is_not_true is))))
view_effect e k (verb.ToBytes order) lents = bind e (live_layout e k) _ (λ layout. bind e (is_column_order layout order) _ (λ columns is. refl))
view_effect e k verb.Release lents = bind e (released_in e k) _ (λ after is. false_is_not_true is)
view_effect e k verb.Enter lents = bind e (live_layout e k) _ (λ layout is. refl)
view_effect e k verb.Exit lents = bind e (released_in e k) _ (λ after is. false_is_not_true is)
view_effect e k verb.ToContiguous lents = bind e (live_layout e k) _ (λ layout is. refl)
view_effect e k verb.ToList lents = bind e (live_layout e k) _ (λ layout is. refl)
view_effect e k verb.Len lents = bind e (live_layout e k) _ (λ layout. bind e (has_dimensions layout) _ (λ _ is. refl))
view_effect e k (verb.Property p) lents =
    bind e (unless (is_exports p) fault.UnknownName) _ (λ _. bind e (live_layout e k) _ (λ layout. bind e (property_of_layout layout p) _ (λ answer is. refl)))
view_effect e k verb.ToReadonly lents = bind e (live_layout e k) _ (λ layout is. false_is_not_true is)
view_effect e k (verb.Del key) lents = bind e (live_layout e k) _ (λ layout. tt)
view_effect e k (verb.Compare op v) lents = bind e (view_at e k) _ (λ view. bind e (unless (is_order op) fault.Kind) _ (λ _ is. refl))
view_effect e k verb.Hash lents = bind e (live_layout e k) _ (λ layout. bind e (unless (not layout.readonly) fault.Value) _ (λ _ is. refl))
view_effect e k verb.Repr lents = bind e (view_at e k) _ (λ view is. refl)
view_effect e k verb.Iter lents = bind e (live_layout e k) _ (λ layout is. false_is_not_true is)
view_effect e k (verb.Hex sep group) lents =
    bind e (live_layout e k) _ (λ layout. bind e (hex_of (snaps_of lents) sep group (content_of_layout e.bytes layout)) _ (λ text is. refl))
view_effect e k (verb.Range from to) lents = tt
view_effect e k (verb.Append v) lents = tt
view_effect e k (verb.Extend v) lents = tt
view_effect e k (verb.Insert index v) lents = tt
view_effect e k (verb.Pop index) lents = tt
view_effect e k (verb.Remove v) lents = tt
view_effect e k verb.Clear lents = tt
view_effect e k verb.Reverse lents = tt
view_effect e k (verb.IAdd v) lents = tt
view_effect e k (verb.IMul count) lents = tt
view_effect e k (verb.Init options) lents = tt
view_effect e k verb.Take lents = tt
view_effect e k verb.Copy lents = tt
view_effect e k verb.Next lents = tt
view_effect e k verb.LengthHint lents = tt
view_effect e k (verb.SetState state) lents = tt
view_effect e k (verb.Contains v) lents = tt
view_effect e k (verb.Call method) lents = tt

-- ---- effects of an iterator

put_so : (e : Exporter) (k : ℕ) (it : Iterator) (state : Value) (b : Bool) → IfDone (IsPlainOrSame e) (put_unless b e k it state)
put_so e k it state true = λ is. refl
put_so e k it state false = bind e (number_of state) _ (λ number is. false_is_not_true is)

iterator_effect : (e : Exporter) (k : ℕ) (v : Verb) → hands_over (subject.Iter k) v ≡ false → IfDone (IsPlainOrSame e) (effect_on_iterator e k v)
iterator_effect e k verb.Iter other = bind e (iterator_at e k) _ (λ it is. refl)
iterator_effect e k verb.Next other = absurd (true≢false other)
iterator_effect e k verb.LengthHint other = bind e (iterator_over_bytes e k) _ (λ it is. refl)
iterator_effect e k (verb.SetState state) other = bind e (iterator_over_bytes e k) _ (λ it. put_so e k it state it.exhausted)
iterator_effect e k verb.View other = tt
iterator_effect e k (verb.Range from to) other = tt
iterator_effect e k (verb.Get key) other = tt
iterator_effect e k (verb.Set key v) other = tt
iterator_effect e k (verb.Cast format shape) other = tt
iterator_effect e k (verb.CastF format shape) other = tt
iterator_effect e k (verb.ToBytes order) other = tt
iterator_effect e k verb.Release other = tt
iterator_effect e k verb.Enter other = tt
iterator_effect e k verb.Exit other = tt
iterator_effect e k verb.ToContiguous other = tt
iterator_effect e k verb.ToList other = tt
iterator_effect e k verb.Len other = tt
iterator_effect e k (verb.Property p) other = tt
iterator_effect e k verb.ToReadonly other = tt
iterator_effect e k (verb.Del key) other = tt
iterator_effect e k (verb.Append v) other = tt
iterator_effect e k (verb.Extend v) other = tt
iterator_effect e k (verb.Insert index v) other = tt
iterator_effect e k (verb.Pop index) other = tt
iterator_effect e k (verb.Remove v) other = tt
iterator_effect e k verb.Clear other = tt
iterator_effect e k verb.Reverse other = tt
iterator_effect e k (verb.IAdd v) other = tt
iterator_effect e k (verb.IMul count) other = tt
iterator_effect e k (verb.Init options) other = tt
iterator_effect e k verb.Take other = tt
iterator_effect e k verb.Copy other = tt
iterator_effect e k (verb.Compare op v) other = tt
iterator_effect e k verb.Hash other = tt
iterator_effect e k verb.Repr other = tt
iterator_effect e k (verb.Contains v) other = tt
iterator_effect e k (verb.Hex sep group) other = tt
iterator_effect e k (verb.Call method) other = tt

-- ---- every command

effect_so : (e : Exporter) (s : Subject) (v : Verb) (lents : List Lent) → hands_over s v ≡ false → IfDone (IsPlainOrSame e) (effect e s v lents)
effect_so e subject.Own v lents other = own_effect e v lents other
effect_so e (subject.View k) v lents other = view_effect e k v lents
effect_so e (subject.Iter k) v lents other = iterator_effect e k v other

settled_so : (e : Exporter) (r : Result (Exporter × LocalReply) Fault) → IfDone (IsPlainOrSame e) r → IsPlainOrSame e (settled_answer e r)
settled_so e (Ok after) done = done
settled_so e (Err f) done = λ is. refl

pub owning_same : OwningRepliesChangeNothing
owning_same e s v loans other is =
    let named = names_of loans in
    let r = effect e s v (lents_by e named (handles_read s v)) in
    settled_so e (if are_named e named (handles_of v) then r else Err fault.UnknownName)
    (chosen e (are_named e named (handles_of v)) r (Err fault.UnknownName) (effect_so e s v (lents_by e named (handles_read s v)) other) tt) is

-- ---- `take`

abbrev IsTaken : Exporter → Exporter × LocalReply → Type 0
IsTaken e after = (reply_owns after.1 ≡ false) ⊎ (after.1 ≡ reply.Bytes e.bytes)

taken_if : (e : Exporter) (vector : Bool) (asked : Result Bool Fault) → IsTaken e (settled_answer e (if vector then (asked >>= λ _. Ok ((with_bytes e []).0, reply.Bytes e.bytes)) else Err fault.UnknownName))
taken_if e true (Ok b) = inr refl
taken_if e true (Err f) = inl refl
taken_if e false asked = inl refl

pub taken_all : TakenBytesAreAll
taken_all e loans = taken_if e (is_vector e.kind) (resizable e)

-- ---- `next`

set_back : {X : Type 0} (xs : List X) (k : ℕ) (x y : X) → slice_get xs k ≡ Some x → set (set xs k y) k x ≡ xs
set_back [] k x y given = absurd (cc)
set_back (z ∷ xs) zero x y given = cc (given)
set_back (z ∷ xs) (suc k) x y given = ap (λ ys. z ∷ ys) (set_back xs k x y given)

within : {X : Type 0} (xs : List X) (k : ℕ) (x : X) → slice_get xs k ≡ Some x → nat_lt k (length xs) ≡ true
within xs k x given = let below = slice_get_within xs k x given in grind (arith, below)

still_within : {X : Type 0} (xs : List X) (k : ℕ) (x y : X) → slice_get xs k ≡ Some x → nat_lt k (length (set xs k y)) ≡ true
still_within xs k x y given = let below = slice_get_within xs k x given in let same = length-set xs k y in grind (arith, below, same)

abbrev IsUndone : Exporter → ℕ → Iterator → Exporter × LocalReply → Type 0
IsUndone e k it after = (nat_lt k (length after.0.iterators) ≡ true) × (iterator_put after.0 k it ≡ e)

put_undone : (e : Exporter) (k : ℕ) (it now : Iterator) → slice_get e.iterators k ≡ Some it → IsUndone e k it (iterator_put e k now, reply.Ok)
put_undone e k it now given = (still_within e.iterators k it now given, ap (λ (its : List Iterator). let all : Exporter = record e { iterators = its } in all) (set_back e.iterators k it now given))

same_undone : (e : Exporter) (k : ℕ) (it : Iterator) → slice_get e.iterators k ≡ Some it → IsUndone e k it (e, reply.Ok)
same_undone e k it given = (within e.iterators k it given, ap (λ (its : List Iterator). let all : Exporter = record e { iterators = its } in all) (set_to_itself e.iterators k it given))

moved_undone : (e : Exporter) (k : ℕ) (it : Iterator) (x : Option Item) → slice_get e.iterators k ≡ Some it → IsUndone e k it (moved_on e k it x)
moved_undone e k it (Some x) given = put_undone e k it (record it { position = it.position + 1 }) given
moved_undone e k it None given = put_undone e k it (record it { exhausted = true }) given

item_undone : (e : Exporter) (k : ℕ) (it : Iterator) (x : Result (Option Item) Fault) → slice_get e.iterators k ≡ Some it → IsUndone e k it (settled_answer e (x >>= λ item. Ok (moved_on e k it item)))
item_undone e k it (Ok x) given = moved_undone e k it x given
item_undone e k it (Err f) given = same_undone e k it given

next_undone : (e : Exporter) (k : ℕ) (it : Iterator) (b : Bool) → slice_get e.iterators k ≡ Some it → IsUndone e k it (settled_answer e (next_unless b e k it))
next_undone e k it true given = same_undone e k it given
next_undone e k it false given = item_undone e k it (item_over e it.subject it.position) given

by_iterator : (e : Exporter) (k : ℕ) (it : Iterator) (r : Result Iterator Fault) → r ≡ Ok it → slice_get e.iterators k ≡ Some it → IsUndone e k it (settled_answer e (r >>= λ found. next_unless found.exhausted e k found))
by_iterator e k it (Ok found) is given = subst (λ (x : Iterator). IsUndone e k it (settled_answer e (next_unless x.exhausted e k x))) (let same : it ≡ found = cc in same) (next_undone e k it it.exhausted given)
by_iterator e k it (Err f) is given = absurd (cc)

pub next_is_undone : NextIsUndone
next_is_undone e k it loans found = by_iterator e k it (iterator_at e k) found (iterator_given (slice_get e.iterators k) it found)

no_next : (e : Exporter) (k : ℕ) (f : Fault) (r : Result Iterator Fault) → r ≡ Err f → (settled_answer e (r >>= λ found. next_unless found.exhausted e k found)).0 ≡ e
no_next e k f (Ok found) is = absurd (cc)
no_next e k f (Err g) is = refl

pub no_iterator_no_next : NoIteratorHasNoNext
no_iterator_no_next e k f loans found = no_next e k f (iterator_at e k) found
