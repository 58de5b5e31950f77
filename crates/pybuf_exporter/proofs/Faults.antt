-- No effect is refused with `StructError`, and only an edit with `BufferError`, effect by effect.
use Rattle.std.proofs.Common.{◌≡◌, ℕ, zero, suc, ◌*◌, ◌/◌, ◌%◌, ◌^◌, List, [], ◌∷◌, Bool, true, false, true≢false, refl, ap, ◌∙◌, sym, subst, length, map}
use Rattle.std.specs.Prelude.{◌≢◌, ◌==◌, ◌&&◌, ◌||◌, not, reverse, ◌-◌, ℤ, pos, negsuc, Option, Some, None, Result, Ok, Err, nat_lt, nat_le, slice_get, slice_index}
use Rattle.std.specs.List.{list_all, position_or_len}
use Rattle.std.specs.Option.{ok_or}
use Rattle.pybuf_value.specs.declared.faults.Fault.{Fault}
use Rattle.pybuf_value.specs.declared.faults.Fault.TheVariants as fault
use Rattle.pybuf_value.specs.declared.snaps.Snap.{Snap}
use Rattle.pybuf_value.specs.declared.values.PySlice.{PySlice}
use Rattle.pybuf_value.specs.declared.values.Scalar.{Scalar}
use Rattle.pybuf_value.specs.declared.values.Scalar.TheVariants as scalar
use Rattle.pybuf_value.specs.declared.values.Value.{Value}
use Rattle.pybuf_value.specs.declared.values.Value.TheVariants as value
use Rattle.pybuf_value.specs.Refusing.{◌>>=◌, unless, IfDone}
use Rattle.pybuf_value.specs.Numbers as numbers
use Rattle.pybuf_value.specs.Order.{is_order}
use Rattle.pybuf_value.specs.Snaps as snaps
use Rattle.pybuf_value.specs.Texts as texts
use Rattle.pybuf_index.specs.Parts as parts
use Rattle.pybuf_index.specs.Places as places
use Rattle.pybuf_slice.specs.Edits.{is_one}
use Rattle.pybuf_struct.specs.declared.table.Endianness.TheVariants as order
use Rattle.pybuf_struct.specs.Table.{size_of}
use Rattle.pybuf_struct.specs.Packing.{packed_bytes}
use Rattle.pybuf_struct.specs.Natives as natives
use Rattle.pybuf_struct.specs.Formats.{format_of}
use Rattle.pybuf_desc.specs.Layouts.{Layout, product}
use Rattle.pybuf_desc.specs.Slices.{first_entry}
use Rattle.pybuf_desc.specs.Contiguous.{is_contiguous_layout}
use Rattle.pybuf_desc.specs.Items.{content_of_layout}
use Rattle.pybuf_command.specs.declared.kinds.ExporterKind.{ExporterKind}
use Rattle.pybuf_command.specs.declared.kinds.ExporterKind.TheVariants as kind
use Rattle.pybuf_command.specs.declared.kinds.Subject.{Subject}
use Rattle.pybuf_command.specs.declared.kinds.Subject.TheVariants as subject
use Rattle.pybuf_command.specs.declared.options.ByteInnerNewOptions.{ByteInnerNewOptions}
use Rattle.pybuf_command.specs.declared.methods.MethodCall.{MethodCall}
use Rattle.pybuf_value.specs.declared.values.CompareOp.{CompareOp}
use Rattle.pybuf_command.specs.declared.commands.PropertyName.{PropertyName}
use Rattle.pybuf_command.specs.declared.commands.PropertyName.TheVariants as name
use Rattle.pybuf_command.specs.declared.commands.Verb.{Verb}
use Rattle.pybuf_command.specs.declared.commands.Verb.TheVariants as verb
use Rattle.pybuf_command.specs.declared.commands.LocalReply.{LocalReply}
use Rattle.pybuf_command.specs.declared.commands.LocalReply.TheVariants as reply
use Rattle.pybuf_command.specs.declared.loans.Loan.{Loan}
use Rattle.pybuf_command.specs.Handles.{handles_of, handles_read}
use Rattle.pybuf_command.specs.Kinds.{of_byte_array, holds_readonly}
use Rattle.pybuf_memoryview.specs.Items as items
use Rattle.pybuf_memoryview.specs.Keys as keys
use Rattle.pybuf_memoryview.specs.Orders.{nbytes_of, has_zero_entry}
use Rattle.pybuf_state.specs.Exporter as state
use Rattle.pybuf_state.specs.Exporter.{Exporter, Iterator, View}
use Rattle.pybuf_state.specs.Keeps.{is_vector}
use Rattle.pybuf_state.specs.Loans.{Lent, are_named, lents_by, names_of, snaps_of}
use Rattle.pybuf_state.specs.Snaps.{snap_of_exporter}
use Rattle.pybuf_state.specs.Laws.{ReadingKeeps}
use Rattle.pybuf_state.specs.Resizing.{has_exports, resizable}
use Rattle.pybuf_verbs_views.specs.Cast as casts
use Rattle.pybuf_verbs_views.specs.Range as ranges
use Rattle.pybuf_verbs_views.specs.View as views
use Rattle.pybuf_verbs_views.specs.Slice.{slice_of_view}
use Rattle.pybuf_verbs_views.specs.Release.{release_of_view}
use Rattle.pybuf_verbs_reads.specs.Get as gets
use Rattle.pybuf_verbs_reads.specs.ToBytes as orders
use Rattle.pybuf_verbs_reads.specs.Len.{len_of_view}
use Rattle.pybuf_verbs_reads.specs.Property as properties
use Rattle.pybuf_verbs_compare.specs.Compare as compares
use Rattle.pybuf_verbs_compare.specs.Hash.{hash_of_own, hash_of_view}
use Rattle.pybuf_verbs_compare.specs.Repr as reprs
use Rattle.pybuf_verbs_writes.specs.Set as sets
use Rattle.pybuf_verbs_writes.specs.Assign as assigns
use Rattle.pybuf_verbs_methods.specs.Calls.{call_of_own, contains_of_own, hex_of_view}
use Rattle.pybuf_methods.specs.Methods.{method_reply}
use Rattle.pybuf_methods.specs.Sought.{contains_in}
use Rattle.pybuf_methods.specs.Shaped.{hex_of}
use Rattle.pybuf_verbs_iters.specs.Iterators as iterators
use Rattle.pybuf_verbs_edits.specs.Common.{with_bytes, is_itself}
use Rattle.pybuf_verbs_edits.specs.Growing as growing
use Rattle.pybuf_verbs_edits.specs.Shrinking as shrinking
use Rattle.pybuf_verbs_edits.specs.Replacing as replacing
use Rattle.pybuf_verbs_edits.specs.Edits.{edit_of_own, is_edit}
use Rattle.pybuf_bytes.specs.Options.{bytes_of_options}
use Rattle.pybuf_exporter.specs.Step.{get_of_view, set_through_view, set_in_own, effect_on_own, effect_on_view, effect, answer_by, settled_answer}
use Rattle.pybuf_exporter.specs.Laws.{StructErrorIsNeverReplied}
use Rattle.pybuf_exporter.specs.Counting.{edits_by}
use Rattle.pybuf_exporter.specs.Releasing.{BufferErrorIsOfEdits}
use Rattle.pybuf_exporter.specs.Effects.{EffectsAreSafe}
use Rattle.pybuf_exporter.proofs.Every.{IsStep, IsReplyTo, answered_step}
use Rattle.pybuf_exporter.proofs.Counting.{no_edit}
use Rattle.pybuf_exporter.proofs.Refusing.{effect_is_edit}
use Rattle.pybuf_exporter.proofs.Arguments as given
use Rattle.pybuf_exporter.proofs.Arguments.{is_struct, is_of_edits, Known, Edited, also, bind, carried, checked, either, some_or, edit_bind, edit_checked, edit_either}

-- ---- what effects begin with

view_at : (e : Exporter) (k : ℕ) → Known (state.view_at e k)
view_at e k = some_or (slice_get e.views k) fault.UnknownName refl

live : (e : Exporter) (k : ℕ) → Known (state.live_layout e k)
live e k = bind (state.view_at e k) _ (view_at e k) (λ v. bind (unless v.released fault.Value) _ (checked v.released fault.Value refl) (λ _. tt))

iterator_at : (e : Exporter) (k : ℕ) → Known (state.iterator_at e k)
iterator_at e k = some_or (slice_get e.iterators k) fault.UnknownName refl

dimensions : (layout : Layout) → Known (items.has_dimensions layout)
dimensions layout = checked (length layout.shape == 0) fault.Kind refl

index_in : (key : Value) → Known (items.index_in key)
index_in key = bind (numbers.number_of key) _ (given.number_of key) (λ n. given.fitted_number fault.Index n refl)

entry_in : (count : ℕ) (index : ℤ) → Known (places.entry_in count index)
entry_in count index = some_or (places.item_place count index) fault.Index refl

part_in : (s : Scalar) → Known (parts.part_in s)
part_in scalar.None = tt
part_in s = carried (numbers.number_in s) (λ n. Some n) (given.number_in s)

nonzero : (n : ℤ) → Known (parts.nonzero n)
nonzero (pos zero) = refl
nonzero (pos (suc n)) = tt
nonzero (negsuc n) = tt

step_in : (s : Scalar) → Known (parts.step_in s)
step_in scalar.None = tt
step_in s = bind (numbers.number_in s) parts.nonzero (given.number_in s) (λ n. nonzero n)

parts_of : (slice : PySlice) → Known (parts.parts_of slice)
parts_of slice = bind (parts.step_in slice.step) _ (step_in slice.step) (λ step. bind (parts.part_in slice.start) _ (part_in slice.start) (λ start. bind (parts.part_in slice.stop) _ (part_in slice.stop) (λ stop. tt)))

slice_parts : (slice : PySlice) → Known (parts.saturated_parts_of slice)
slice_parts slice = bind (parts.parts_of slice) _ (parts_of slice) (λ p. tt)

resize : (e : Exporter) → Edited (resizable e)
resize e = edit_checked (has_exports e) fault.Buffer refl

byte_array_alone : {X : Type 0} (k : ExporterKind) (r : Result X Fault) → Known r → Known (of_byte_array k r)
byte_array_alone kind.ByteArray r known = known
byte_array_alone _ r known = refl

edit_byte_array : {X : Type 0} (k : ExporterKind) (r : Result X Fault) → Edited r → Edited (of_byte_array k r)
edit_byte_array kind.ByteArray r known = known
edit_byte_array _ r known = refl

-- ---- keys of views

at_indices : (shape : List ℕ) (indices : List ℤ) → Known (keys.item_at_indices shape indices)
at_indices (n ∷ shape) (index ∷ indices) = bind (places.entry_in n index) _ (entry_in n index) (λ entry. bind (keys.item_at_indices shape indices) _ (at_indices shape indices) (λ item. tt))
at_indices [] indices = tt
at_indices (n ∷ shape) [] = tt

of_tuple : (shape : List ℕ) (ps : List Scalar) → Known (keys.item_of_tuple shape ps)
of_tuple shape ps =
    bind (unless (not (list_all keys.is_number ps)) fault.Kind) _ (checked _ fault.Kind refl) (λ _.
    bind (unless (not (list_all keys.fits_word ps)) fault.Index) _ (checked _ fault.Index refl) (λ _.
    bind (unless (nat_lt (length ps) (length shape)) fault.NotImplemented) _ (checked _ fault.NotImplemented refl) (λ _.
    bind (unless (nat_lt (length shape) (length ps)) fault.Kind) _ (checked _ fault.Kind refl) (λ _. at_indices shape (map keys.part_number ps)))))

of_index : (shape : List ℕ) (key : Value) → Known (keys.item_of_index shape key)
of_index shape key = bind (items.index_in key) _ (index_in key) (λ index. bind (unless (not (length shape == 1)) fault.NotImplemented) _ (checked _ fault.NotImplemented refl) (λ _. entry_in (slice_index shape 0) index))

among : (shape : List ℕ) (key : Value) → Known (keys.item_among shape key)
among shape (value.Tuple ps) = of_tuple shape ps
among shape (value.Slices (slice ∷ slices)) = refl
among shape key = of_index shape key

only : (key : Value) → Known (keys.only_item key)
only (value.Tuple []) = tt
only (value.One scalar.Ellipsis) = tt
only _ = refl

of_key : (shape : List ℕ) (key : Value) → Known (keys.item_of_key shape key)
of_key shape key = either (length shape == 0) (keys.only_item key) (keys.item_among shape key) (only key) (among shape key)

-- ---- effects that make or release views

between : (count : ℕ) (from to : ℤ) → Known (ranges.part_between count from to)
between count (pos from) (pos to) = either (nat_le from to && nat_le to count) (Ok (from, to - from)) (Err fault.Index) tt refl
between count (pos from) (negsuc to) = refl
between count (negsuc from) to = refl

range : (e : Exporter) (from to : Value) → Known (ranges.range_of_own e from to)
range e from to = bind (numbers.number_of from) _ (given.number_of from) (λ first. bind (numbers.number_of to) _ (given.number_of to) (λ end. bind (ranges.part_between (length e.bytes) first end) _ (between (length e.bytes) first end) (λ part. tt)))

view : (e : Exporter) (k : ℕ) → Known (views.view_of_view e k)
view e k = bind (state.live_layout e k) _ (live e k) (λ layout. tt)

slice : (e : Exporter) (k : ℕ) (s : PySlice) → Known (slice_of_view e k s)
slice e k s = bind (state.live_layout e k) _ (live e k) (λ layout. bind (items.has_dimensions layout) _ (dimensions layout) (λ _. bind (parts.saturated_parts_of s) _ (slice_parts s) (λ p. tt)))

code_for : (layout : Layout) (text : List ℕ) → Known (casts.code_for layout text)
code_for layout text = bind (ok_or (natives.native_single_code text) fault.Value) _ (some_or (natives.native_single_code text) fault.Value refl) (λ code. bind (unless (not (natives.is_byte_code code) && not (natives.is_byte_format layout.format)) fault.Kind) _ (checked _ fault.Kind refl) (λ _. tt))

size_for : (layout : Layout) (text : List ℕ) → Known (casts.size_for layout text)
size_for layout text = bind (casts.code_for layout text) _ (code_for layout text) (λ code. bind (unless (not (nbytes_of layout % size_of order.Native code == 0)) fault.Kind) _ (checked _ fault.Kind refl) (λ _. tt))

entry_above_0 : (size : ℕ) (n : ℤ) → Known (casts.entry_above_0 size n)
entry_above_0 size (pos n) = either (n == 0 || nat_lt (9223372036854775807 / size) n) (Err fault.Value) (Ok n) refl tt
entry_above_0 size (negsuc n) = refl

entry_of : (size : ℕ) (part : Scalar) → Known (casts.entry_of size part)
entry_of size part = bind (numbers.number_in part) _ (given.number_in part) (λ n. bind (numbers.fitted_number fault.Overflow n) _ (given.fitted_number fault.Overflow n refl) (λ word. entry_above_0 size word))

entries_of : (size : ℕ) (ps : List Scalar) → Known (casts.entries_of size ps)
entries_of size [] = tt
entries_of size (part ∷ ps) = bind (casts.entry_of size part) _ (entry_of size part) (λ entry. bind (casts.entries_of (size * entry) ps) _ (entries_of (size * entry) ps) (λ entries. tt))

flat : (layout : Layout) (text : List ℕ) → Known (casts.flat_layout_of layout text)
flat layout text = bind (unless (not (length layout.shape == 1) && has_zero_entry layout.shape) fault.Kind) _ (checked _ fault.Kind refl) (λ _. bind (casts.size_for layout text) _ (size_for layout text) (λ size. tt))

shaped : (columns : Bool) (layout : Layout) (text : List ℕ) (ps : List Scalar) → Known (casts.shaped_layout_of columns layout text ps)
shaped columns layout text ps =
    bind (unless (has_zero_entry layout.shape) fault.Kind) _ (checked _ fault.Kind refl) (λ _.
    bind (unless (not (length layout.shape == 1) && not (length ps == 1)) fault.Kind) _ (checked _ fault.Kind refl) (λ _.
    bind (unless (nat_lt 64 (length ps)) fault.Value) _ (checked _ fault.Value refl) (λ _.
    bind (casts.size_for layout text) _ (size_for layout text) (λ size.
    bind (casts.entries_of size ps) _ (entries_of size ps) (λ entries.
    bind (unless (not (size * product entries == nbytes_of layout)) fault.Kind) _ (checked _ fault.Kind refl) (λ _. tt))))))

in_shape : (layout : Layout) (text : List ℕ) (shape : Option Value) → Known (casts.layout_in_shape layout text shape)
in_shape layout text None = flat layout text
in_shape layout text (Some (value.Tuple ps)) = shaped false layout text ps
in_shape layout text (Some (value.List ps)) = shaped false layout text ps
in_shape layout text (Some _) = refl

cast : (e : Exporter) (k : ℕ) (format : Value) (shape : Option Value) → Known (casts.cast_of_view e k format shape)
cast e k format shape =
    bind (state.live_layout e k) _ (live e k) (λ layout.
    bind (unless (not (is_contiguous_layout layout)) fault.Kind) _ (checked _ fault.Kind refl) (λ _.
    bind (texts.text_in format) _ (given.text_in format) (λ text.
    bind (casts.layout_in_shape layout text shape) _ (in_shape layout text shape) (λ made. tt))))

in_columns : (layout : Layout) (text : List ℕ) (shape : Value) → Known (casts.column_layout_in layout text shape)
in_columns layout text (value.Tuple ps) = shaped true layout text ps
in_columns layout text (value.List ps) = shaped true layout text ps
in_columns layout text _ = refl

column_cast : (e : Exporter) (k : ℕ) (format shape : Value) → Known (casts.column_cast_of_view e k format shape)
column_cast e k format shape =
    bind (state.live_layout e k) _ (live e k) (λ layout.
    bind (unless (not (is_contiguous_layout layout)) fault.Kind) _ (checked _ fault.Kind refl) (λ _.
    bind (texts.text_in format) _ (given.text_in format) (λ text.
    bind (casts.column_layout_in layout text shape) _ (in_columns layout text shape) (λ made. tt))))

release : (e : Exporter) (k : ℕ) → Known (release_of_view e k)
release e k = bind (state.released_in e k) _ (bind (state.view_at e k) _ (view_at e k) (λ v. tt)) (λ after. tt)

-- ---- effects that read

byte_of_own : (e : Exporter) (key : Value) → Known (gets.byte_of_own e key)
byte_of_own e key = bind (items.index_in key) _ (index_in key) (λ index. bind (places.entry_in (length e.bytes) index) _ (entry_in (length e.bytes) index) (λ place. tt))

part_of_own : (e : Exporter) (key : Value) → Known (gets.part_of_own e key)
part_of_own e (value.Slice s) = bind (parts.saturated_parts_of s) _ (slice_parts s) (λ p. tt)
part_of_own e key = byte_of_own e key

in_kind : (k : ExporterKind) (r : Result (Exporter × LocalReply) Fault) → Known r → Known (gets.get_in_kind k r)
in_kind (kind.Vector readonly) r known = refl
in_kind _ r known = known

item : (e : Exporter) (k : ℕ) (key : Value) → Known (gets.item_of_view e k key)
item e k key =
    bind (state.live_layout e k) _ (live e k) (λ layout.
    either (keys.names_itself layout.shape key) (Ok (e, reply.Itself)) (gets.item_of_layout e layout key) tt (bind (keys.item_of_key layout.shape key) _ (of_key layout.shape key) (λ i. tt)))

get : (e : Exporter) (k : ℕ) (key : Value) → Known (get_of_view e k key)
get e k (value.Slice s) = slice e k s
get e k key = item e k key

len : (e : Exporter) (k : ℕ) → Known (len_of_view e k)
len e k = bind (state.live_layout e k) _ (live e k) (λ layout. bind (items.has_dimensions layout) _ (dimensions layout) (λ _. tt))

property_of_own : (e : Exporter) (p : PropertyName) → Known (properties.property_of_own e p)
property_of_own e name.Exports = tt
property_of_own e _ = refl

property_of_layout : (layout : Layout) (p : PropertyName) → Known (properties.property_of_layout layout p)
property_of_layout layout name.Exports = refl
property_of_layout layout _ = tt

property : (e : Exporter) (k : ℕ) (p : PropertyName) → Known (properties.property_of_view e k p)
property e k p = bind (unless (properties.is_exports p) fault.UnknownName) _ (checked _ fault.UnknownName refl) (λ _. bind (state.live_layout e k) _ (live e k) (λ layout. bind (properties.property_of_layout layout p) _ (property_of_layout layout p) (λ answer. tt)))

one_live : {A : Type 0} (e : Exporter) (k : ℕ) (f : Layout → A) → Known (state.live_layout e k >>= λ layout. Ok (f layout))
one_live e k f = bind (state.live_layout e k) _ (live e k) (λ layout. tt)

-- An order is one of three letters.
by_letter : (layout : Layout) (letter : ℕ) → Known (orders.by_letter layout letter)
by_letter layout letter = either (letter == 67) (Ok false) _ tt (either (letter == 70) (Ok true) _ tt (either (letter == 65) (Ok _) (Err fault.Value) tt refl))

by_text : (layout : Layout) (text : List ℕ) → Known (orders.by_text layout text)
by_text layout (letter ∷ []) = by_letter layout letter
by_text layout _ = refl

column_order : (layout : Layout) (order : Option Value) → Known (orders.is_column_order layout order)
column_order layout None = tt
column_order layout (Some (value.One scalar.None)) = tt
column_order layout (Some v) = bind (texts.text_in v) _ (given.text_in v) (λ text. by_text layout text)

bytes_own : (e : Exporter) (order : Option Value) → Known (orders.bytes_of_own e order)
bytes_own e None = tt
bytes_own e (Some v) = refl

bytes_view : (e : Exporter) (k : ℕ) (order : Option Value) → Known (orders.bytes_of_view e k order)
bytes_view e k order = bind (state.live_layout e k) _ (live e k) (λ layout. bind (orders.is_column_order layout order) _ (column_order layout order) (λ columns. tt))

-- ---- effects that compare

compare_own : (e : Exporter) (op : CompareOp) (other : Value) (lents : List Lent) → Known (compares.compare_of_own e op other lents)
compare_own e op other lents = bind (unless (is_vector e.kind) fault.UnknownName) _ (checked _ fault.UnknownName refl) (λ _. bind (unless (compares.has_no_order_with e.kind op (compares.other_in other lents)) fault.Kind) _ (checked _ fault.Kind refl) (λ _. tt))

compare : (e : Exporter) (k : ℕ) (op : CompareOp) (other : Value) (lents : List Lent) → Known (compares.compare_of_view e k op other lents)
compare e k op other lents = bind (state.view_at e k) _ (view_at e k) (λ v. bind (unless (is_order op) fault.Kind) _ (checked _ fault.Kind refl) (λ _. tt))

hash_own : (e : Exporter) → Known (hash_of_own e)
hash_own e = bind (unless (is_vector e.kind) fault.UnknownName) _ (checked _ fault.UnknownName refl) (λ _. bind (unless (not (holds_readonly e.kind)) fault.Kind) _ (checked _ fault.Kind refl) (λ _. tt))

hash : (e : Exporter) (k : ℕ) → Known (hash_of_view e k)
hash e k = bind (state.live_layout e k) _ (live e k) (λ layout. bind (unless (not layout.readonly) fault.Value) _ (checked _ fault.Value refl) (λ _. tt))

repr_own : (e : Exporter) → Known (reprs.repr_of_own e)
repr_own e = bind (unless (is_vector e.kind) fault.UnknownName) _ (checked _ fault.UnknownName refl) (λ _. bind (texts.fitted (reprs.shown_bytes e.kind e.bytes)) _ (given.fitted (reprs.shown_bytes e.kind e.bytes)) (λ whole. tt))

repr : (e : Exporter) (k : ℕ) → Known (reprs.repr_of_view e k)
repr e k = bind (state.view_at e k) _ (view_at e k) (λ v. tt)

-- ---- effects that write

set_own : (e : Exporter) (key v : Value) → Known (sets.set_of_own e key v)
set_own e key v = byte_array_alone e.kind (sets.byte_set e key v) (bind (items.index_in key) _ (index_in key) (λ index. bind (numbers.byte_in v) _ (given.byte_in v) (λ byte. bind (places.entry_in (length e.bytes) index) _ (entry_in (length e.bytes) index) (λ place. tt))))

of_a_kind : {X : Type 0} (r : Result X Fault) → Known (items.kind_fault r)
of_a_kind (Ok x) = tt
of_a_kind (Err f) = refl

piece : (text : List ℕ) (pairs : List (ℕ × Snap)) (v : Value) → Known (items.piece_by text pairs v)
piece text pairs v = bind (items.kind_fault (format_of text)) _ (of_a_kind (format_of text)) (λ format. of_a_kind (packed_bytes format pairs (items.scalar_in v ∷ [])))

set_target : (e : Exporter) (k : ℕ) (key v : Value) → Known (sets.set_target e k key v)
set_target e k key v =
    bind (state.live_layout e k) _ (live e k) (λ layout.
    bind (unless layout.readonly fault.Kind) _ (checked _ fault.Kind refl) (λ _.
    bind (unless (items.is_none v) fault.Kind) _ (checked _ fault.Kind refl) (λ _.
    bind (keys.item_of_key layout.shape key) _ (of_key layout.shape key) (λ i. tt))))

set_item : (e : Exporter) (k : ℕ) (key v : Value) (lents : List Lent) → Known (sets.set_of_view e k key v lents)
set_item e k key v lents = bind (sets.set_target e k key v) _ (set_target e k key v) (λ target. bind (items.piece_by target.0.format (snaps_of lents) v) _ (piece target.0.format (snaps_of lents) v) (λ p. tt))

assign_target : (e : Exporter) (k : ℕ) (s : PySlice) (v : Value) → Known (assigns.assign_target e k s v)
assign_target e k s v =
    bind (state.live_layout e k) _ (live e k) (λ layout.
    bind (unless layout.readonly fault.Kind) _ (checked _ fault.Kind refl) (λ _.
    bind (unless (items.is_none v) fault.Kind) _ (checked _ fault.Kind refl) (λ _.
    bind (items.has_dimensions layout) _ (dimensions layout) (λ _.
    bind (unless (not (length layout.shape == 1)) fault.NotImplemented) _ (checked _ fault.NotImplemented refl) (λ _.
    bind (parts.saturated_parts_of s) _ (slice_parts s) (λ p. tt))))))

no_iterator : (snap : Snap) → Known (assigns.no_iterator snap)
no_iterator snap = bind (unless (snaps.is_iterator snap.kind) fault.Kind) _ (checked _ fault.Kind refl) (λ _. tt)

lent_source : (lents : List Lent) → Known (assigns.lent_source lents)
lent_source [] = refl
lent_source (l ∷ lents) = no_iterator l.snap

source_in : (v : Value) (lents : List Lent) → Known (assigns.source_in v lents)
source_in (value.One (scalar.Bytes bytes)) lents = tt
source_in (value.One (scalar.Handle h)) lents = lent_source lents
source_in _ lents = refl

assign : (e : Exporter) (k : ℕ) (s : PySlice) (v : Value) (lents : List Lent) → Known (assigns.assign_of_view e k s v lents)
assign e k s v lents =
    bind (assigns.assign_target e k s v) _ (assign_target e k s v) (λ target.
    bind (assigns.source_in v lents) _ (source_in v lents) (λ source.
    bind (unless source.released fault.Value) _ (checked _ fault.Value refl) (λ _.
    bind (unless (not (assigns.has_form_of target source.format source.itemsize source.shape)) fault.Value) _ (checked _ fault.Value refl) (λ _. tt))))

set_through : (e : Exporter) (k : ℕ) (key v : Value) (lents : List Lent) → Known (set_through_view e k key v lents)
set_through e k (value.Slice s) v lents = assign e k s v lents
set_through e k key v lents = set_item e k key v lents

-- ---- methods

call : (e : Exporter) (c : MethodCall) (pairs : List (ℕ × Snap)) → Known (call_of_own e c pairs)
call e c pairs = bind (unless (is_vector e.kind) fault.UnknownName) _ (checked _ fault.UnknownName refl) (λ _. bind (method_reply pairs e.bytes c.name c.args) _ (given.method pairs e.bytes c.name c.args) (λ answer. tt))

contains : (e : Exporter) (v : Value) (pairs : List (ℕ × Snap)) → Known (contains_of_own e v pairs)
contains e v pairs = bind (unless (is_vector e.kind) fault.UnknownName) _ (checked _ fault.UnknownName refl) (λ _. bind (contains_in pairs e.bytes v) _ (given.contains_in pairs e.bytes v) (λ found. tt))

hex : (e : Exporter) (k : ℕ) (sep group : Option Value) (pairs : List (ℕ × Snap)) → Known (hex_of_view e k sep group pairs)
hex e k sep group pairs = bind (state.live_layout e k) _ (live e k) (λ layout. bind (hex_of pairs sep group (content_of_layout e.bytes layout)) _ (given.hex_of pairs sep group (content_of_layout e.bytes layout)) (λ text. tt))

-- ---- iterators

iter_own : (e : Exporter) → Known (iterators.iter_of_own e)
iter_own e = bind (unless (is_vector e.kind) fault.UnknownName) _ (checked _ fault.UnknownName refl) (λ _. tt)

entry_at : (e : Exporter) (layout : Layout) (position : ℕ) → Known (iterators.entry_at e layout position)
entry_at e layout position = either (nat_lt position (first_entry layout.shape)) (iterators.item_at e layout position) (Ok None) (bind (unless (not (length layout.shape == 1)) fault.NotImplemented) _ (checked _ fault.NotImplemented refl) (λ _. tt)) tt

item_over : (e : Exporter) (s : Subject) (position : ℕ) → Known (iterators.item_over e s position)
item_over e subject.Own position = tt
item_over e (subject.View k) position = bind (state.live_layout e k) _ (live e k) (λ layout. entry_at e layout position)
item_over e (subject.Iter k) position = refl

next_unless : (exhausted : Bool) (e : Exporter) (k : ℕ) (it : Iterator) → Known (iterators.next_unless exhausted e k it)
next_unless true e k it = tt
next_unless false e k it = bind (iterators.item_over e it.subject it.position) _ (item_over e it.subject it.position) (λ x. tt)

over_bytes : (e : Exporter) (k : ℕ) → Known (iterators.iterator_over_bytes e k)
over_bytes e k = bind (state.iterator_at e k) _ (iterator_at e k) (λ it. bind (unless (not (iterators.is_over_bytes it.subject)) fault.UnknownName) _ (checked _ fault.UnknownName refl) (λ _. tt))

put_unless : (exhausted : Bool) (e : Exporter) (k : ℕ) (it : Iterator) (v : Value) → Known (iterators.put_unless exhausted e k it v)
put_unless true e k it v = tt
put_unless false e k it v = bind (numbers.number_of v) _ (given.number_of v) (λ n. tt)

of_iterator : (e : Exporter) (k : ℕ) (v : Verb) → Known (iterators.effect_on_iterator e k v)
of_iterator e k verb.Iter = bind (state.iterator_at e k) _ (iterator_at e k) (λ it. tt)
of_iterator e k verb.Next = bind (state.iterator_at e k) _ (iterator_at e k) (λ it. next_unless it.exhausted e k it)
of_iterator e k verb.LengthHint = bind (iterators.iterator_over_bytes e k) _ (over_bytes e k) (λ it. tt)
of_iterator e k (verb.SetState v) = bind (iterators.iterator_over_bytes e k) _ (over_bytes e k) (λ it. put_unless it.exhausted e k it v)
of_iterator e k _ = refl

-- ---- edits

append : (e : Exporter) (v : Value) → Edited (growing.appended e v)
append e v = edit_bind (numbers.byte_in v) _ (also _ (given.byte_in v)) (λ byte. edit_bind (resizable e) _ (resize e) (λ _. tt))

insert : (e : Exporter) (index v : Value) → Edited (growing.inserted e index v)
insert e index v = edit_bind (numbers.count_in index) _ (also _ (given.count_in index)) (λ n. edit_bind (numbers.byte_in v) _ (also _ (given.byte_in v)) (λ byte. edit_bind (resizable e) _ (resize e) (λ _. tt)))

repeat : (e : Exporter) (n : ℕ) → Edited (growing.repeated e n)
repeat e n = edit_bind (resizable e) _ (resize e) (λ _. edit_bind (unless (not (nat_lt (length e.bytes * n) (2 ^ 63))) fault.Overflow) _ (edit_checked _ fault.Overflow refl) (λ _. tt))

repeat_some : (e : Exporter) (n : ℕ) → Edited (growing.repeated_unless_empty e n)
repeat_some e n = edit_either (length e.bytes == 0) (Ok (e, reply.Ok)) (growing.repeated e n) tt (repeat e n)

multiply : (e : Exporter) (v : Value) → Edited (growing.multiplied e v)
multiply e v = edit_bind (numbers.count_in v) _ (also _ (given.count_in v)) (λ n. edit_either (is_one n) (Ok (e, reply.Ok)) (growing.repeated_unless_empty e (numbers.times n)) tt (repeat_some e (numbers.times n)))

extend : (e : Exporter) (v : Value) (lents : List Lent) → Edited (growing.extended_or_doubled e v lents)
extend e v lents =
    edit_either (is_itself v lents) (growing.repeated_unless_empty e 2) (growing.extended e v lents) (repeat_some e 2)
    (edit_bind (snaps.bytes_in (snaps_of lents) v) _ (also _ (given.bytes_in (snaps_of lents) v)) (λ bytes. edit_bind (resizable e) _ (resize e) (λ _. tt)))

add : (e : Exporter) (v : Value) (lents : List Lent) → Edited (growing.added e v lents)
add e v lents = edit_bind (snaps.like_in (snaps_of lents) v) _ (also _ (given.like_in (snaps_of lents) v)) (λ bytes. edit_bind (unless (is_itself v lents) fault.Buffer) _ (edit_checked _ fault.Buffer refl) (λ _. edit_bind (resizable e) _ (resize e) (λ _. tt)))

pop : (e : Exporter) (index : Option Value) → Edited (shrinking.popped e index)
pop e index = edit_bind (shrinking.count_or_last index) _ (also _ (given.count_or (negsuc 0) index)) (λ n. edit_bind (resizable e) _ (resize e) (λ _. edit_bind (places.entry_in (length e.bytes) n) _ (also _ (entry_in (length e.bytes) n)) (λ place. tt)))

remove : (e : Exporter) (v : Value) → Edited (shrinking.removed e v)
remove e v = edit_bind (numbers.byte_in v) _ (also _ (given.byte_in v)) (λ byte. edit_bind (resizable e) _ (resize e) (λ _. edit_bind (unless (not (nat_lt (position_or_len (λ b. b == byte) e.bytes) (length e.bytes))) fault.Value) _ (edit_checked _ fault.Value refl) (λ _. tt)))

byte_deleted : (e : Exporter) (key : Value) → Edited (shrinking.byte_deleted e key)
byte_deleted e key = edit_bind (items.index_in key) _ (also _ (index_in key)) (λ index. edit_bind (resizable e) _ (resize e) (λ _. edit_bind (places.entry_in (length e.bytes) index) _ (also _ (entry_in (length e.bytes) index)) (λ place. tt)))

delete : (e : Exporter) (key : Value) → Edited (shrinking.deleted e key)
delete e (value.Slice s) = edit_bind (parts.saturated_parts_of s) _ (also _ (slice_parts s)) (λ p. edit_bind (resizable e) _ (resize e) (λ _. tt))
delete e key = byte_deleted e key

delete_of_view : (e : Exporter) (k : ℕ) → Known (shrinking.delete_of_view e k)
delete_of_view e k = bind (state.live_layout e k) _ (live e k) (λ layout. refl)

take : (e : Exporter) → Edited (shrinking.take_of_own e)
take e = edit_either (is_vector e.kind) (shrinking.taken e) (Err fault.UnknownName) (edit_bind (resizable e) _ (resize e) (λ _. tt)) refl

initialize : (e : Exporter) (o : ByteInnerNewOptions) (lents : List Lent) → Edited (replacing.initialized e o lents)
initialize e o lents = edit_bind (bytes_of_options (snaps_of lents) o.source o.encoding o.errors) _ (also _ (given.bytes_of_options (snaps_of lents) o.source o.encoding o.errors)) (λ bytes. edit_bind (resizable e) _ (resize e) (λ _. tt))

set_slice : (e : Exporter) (s : PySlice) (v : Value) (lents : List Lent) → Edited (replacing.slice_set e s v lents)
set_slice e s v lents =
    edit_bind (parts.saturated_parts_of s) _ (also _ (slice_parts s)) (λ p.
    edit_bind (snaps.bytes_in (snaps_of lents) v) _ (also _ (given.bytes_in (snaps_of lents) v)) (λ bytes.
    edit_bind (unless (has_exports e && not (length (parts.picks_of (length e.bytes) p) == length bytes)) fault.Buffer) _ (edit_checked _ fault.Buffer refl) (λ _.
    edit_bind (unless (not (is_one p.step) && not (length (parts.picks_of (length e.bytes) p) == length bytes)) fault.Value) _ (edit_checked _ fault.Value refl) (λ _. tt))))

set_by_key : (e : Exporter) (key v : Value) (lents : List Lent) → Edited (edit_of_own e (verb.Set key v) lents)
set_by_key e (value.Slice s) v lents = edit_byte_array e.kind (replacing.slice_set e s v lents) (set_slice e s v lents)
set_by_key e _ v lents = refl

edit : (e : Exporter) (v : Verb) (lents : List Lent) → Edited (edit_of_own e v lents)
edit e (verb.Append v) lents = edit_byte_array e.kind (growing.appended e v) (append e v)
edit e (verb.Extend v) lents = edit_byte_array e.kind (growing.extended_or_doubled e v lents) (extend e v lents)
edit e (verb.Insert index v) lents = edit_byte_array e.kind (growing.inserted e index v) (insert e index v)
edit e (verb.Pop index) lents = edit_byte_array e.kind (shrinking.popped e index) (pop e index)
edit e (verb.Remove v) lents = edit_byte_array e.kind (shrinking.removed e v) (remove e v)
edit e verb.Clear lents = edit_byte_array e.kind (shrinking.cleared e) (edit_bind (resizable e) _ (resize e) (λ _. tt))
edit e verb.Reverse lents = edit_byte_array e.kind (Ok (with_bytes e (reverse e.bytes))) tt
edit e (verb.Del key) lents = edit_byte_array e.kind (shrinking.deleted e key) (delete e key)
edit e (verb.IAdd v) lents = edit_byte_array e.kind (growing.added e v lents) (add e v lents)
edit e (verb.IMul v) lents = edit_byte_array e.kind (growing.multiplied e v) (multiply e v)
edit e (verb.Init o) lents = edit_byte_array e.kind (replacing.initialized e o lents) (initialize e o lents)
edit e verb.Take lents = take e
edit e verb.Copy lents = edit_byte_array e.kind (Ok (e, reply.Fresh (snap_of_exporter e))) tt
edit e (verb.Set key v) lents = set_by_key e key v lents
edit e _ lents = refl

-- ---- a lemma for each effect

set_own_by_key : (e : Exporter) (key v : Value) (lents : List Lent) → is_edit (verb.Set key v) ≡ false → Known (set_in_own e key v lents)
set_own_by_key e (value.Slice s) v lents is = absurd (true≢false is)
set_own_by_key e key v lents is = set_own e key v

-- the effect of a verb that is no edit
plain_own : (e : Exporter) (v : Verb) (lents : List Lent) → is_edit v ≡ false → Known (effect_on_own e v lents)
plain_own e verb.View lents is = tt
plain_own e (verb.Range from to) lents is = range e from to
plain_own e (verb.Get key) lents is = in_kind e.kind (gets.part_of_own e key) (part_of_own e key)
plain_own e (verb.Set key v) lents is = set_own_by_key e key v lents is
plain_own e (verb.ToBytes order) lents is = bytes_own e order
plain_own e verb.Len lents is = tt
plain_own e (verb.Property p) lents is = property_of_own e p
plain_own e (verb.Compare op other) lents is = compare_own e op other lents
plain_own e verb.Hash lents is = hash_own e
plain_own e verb.Repr lents is = repr_own e
plain_own e verb.Iter lents is = iter_own e
plain_own e (verb.Contains v) lents is = contains e v (snaps_of lents)
plain_own e (verb.Call c) lents is = call e c (snaps_of lents)
plain_own e v lents is = subst Known (sym (no_edit e v lents is)) refl

own_by : (e : Exporter) (v : Verb) (lents : List Lent) (is : Bool) → is_edit v ≡ is → Edited (effect_on_own e v lents)
own_by e v lents true is = subst Edited (sym (effect_is_edit e v lents is)) (edit e v lents)
own_by e v lents false is = also (effect_on_own e v lents) (plain_own e v lents is)

of_own : (e : Exporter) (v : Verb) (lents : List Lent) → Edited (effect_on_own e v lents)
of_own e v lents = own_by e v lents (is_edit v) refl

of_view : (e : Exporter) (k : ℕ) (v : Verb) (lents : List Lent) → Known (effect_on_view e k v lents)
of_view e k verb.View lents = view e k
of_view e k (verb.Get key) lents = get e k key
of_view e k (verb.Set key v) lents = set_through e k key v lents
of_view e k (verb.Cast format shape) lents = cast e k format shape
of_view e k (verb.CastF format shape) lents = column_cast e k format shape
of_view e k (verb.ToBytes order) lents = bytes_view e k order
of_view e k verb.Release lents = release e k
of_view e k verb.Enter lents = one_live e k _
of_view e k verb.Exit lents = release e k
of_view e k verb.ToContiguous lents = one_live e k _
of_view e k verb.ToList lents = one_live e k _
of_view e k verb.Len lents = len e k
of_view e k (verb.Property p) lents = property e k p
of_view e k verb.ToReadonly lents = one_live e k _
of_view e k (verb.Del key) lents = delete_of_view e k
of_view e k (verb.Compare op other) lents = compare e k op other lents
of_view e k verb.Hash lents = hash e k
of_view e k verb.Repr lents = repr e k
of_view e k verb.Iter lents = one_live e k _
of_view e k (verb.Hex sep group) lents = hex e k sep group (snaps_of lents)
of_view e k _ lents = refl

effects : (e : Exporter) (s : Subject) (v : Verb) (lents : List Lent) → Edited (effect e s v lents)
effects e subject.Own v lents = of_own e v lents
effects e (subject.View k) v lents = also (effect_on_view e k v lents) (of_view e k v lents)
effects e (subject.Iter k) v lents = also (iterators.effect_on_iterator e k v) (of_iterator e k v)

plain_effects : (e : Exporter) (s : Subject) (v : Verb) (lents : List Lent) → edits_by s v ≡ false → Known (effect e s v lents)
plain_effects e subject.Own v lents is = plain_own e v lents is
plain_effects e (subject.View k) v lents is = of_view e k v lents
plain_effects e (subject.Iter k) v lents is = of_iterator e k v

pub answers : (e : Exporter) (s : Subject) (v : Verb) (named : ℕ → Option Loan) → Edited (answer_by e s v named)
answers e s v named = edit_either (are_named e named (handles_of v)) (effect e s v (lents_by e named (handles_read s v))) (Err fault.UnknownName) (effects e s v (lents_by e named (handles_read s v))) refl

plain_answers : (e : Exporter) (s : Subject) (v : Verb) (named : ℕ → Option Loan) → edits_by s v ≡ false → Known (answer_by e s v named)
plain_answers e s v named is =
    either (are_named e named (handles_of v)) (effect e s v (lents_by e named (handles_read s v))) (Err fault.UnknownName) (plain_effects e s v (lents_by e named (handles_read s v)) is) refl

-- ---- replies

other_fault : (f : Fault) → is_struct f ≡ false → f ≢ fault.Struct
other_fault f known same = true≢false (sym (ap is_struct same) ∙ known)

settled : (e : Exporter) (s : Subject) (v : Verb) (r : Result (Exporter × LocalReply) Fault) → IfDone (IsStep e s v) r → Edited r → (settled_answer e r).1 ≢ reply.Refused fault.Struct
settled e s v (Ok after) step known is = absurd (subst (IsReplyTo e s after.0) is step.replies)
settled e s v (Err f) step known is = let same : f ≡ fault.Struct = cc in other_fault f known same

not_refused : {A : Type 0} (r : Result A Fault) → Edited r → r ≢ Err fault.Struct
not_refused (Ok x) known is = cc
not_refused (Err f) known is = let same : f ≡ fault.Struct = cc in other_fault f known same

pub never_replied : EffectsAreSafe → ReadingKeeps → StructErrorIsNeverReplied
never_replied safe reading = record {
  commands = λ e s v loans. settled e s v (answer_by e s v (names_of loans)) (answered_step safe reading e s v loans) (answers e s v (names_of loans));
  options = λ pairs source encoding errors. not_refused (bytes_of_options pairs source encoding errors) (also _ (given.bytes_of_options pairs source encoding errors));
}

settled_plain : (e : Exporter) (s : Subject) (v : Verb) (r : Result (Exporter × LocalReply) Fault) → IfDone (IsStep e s v) r → Known r → (settled_answer e r).1 ≢ reply.Refused fault.Buffer
settled_plain e s v (Ok after) step known is = absurd (subst (IsReplyTo e s after.0) is step.replies)
settled_plain e s v (Err f) step known is = let same : f ≡ fault.Buffer = cc in true≢false (sym (ap is_of_edits same) ∙ known)

pub edits_alone : EffectsAreSafe → ReadingKeeps → BufferErrorIsOfEdits
edits_alone safe reading e s v loans other = settled_plain e s v (answer_by e s v (names_of loans)) (answered_step safe reading e s v loans) (plain_answers e s v (names_of loans) other)
