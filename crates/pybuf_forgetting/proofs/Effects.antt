-- An effect is the same on an exporter that has forgotten, but for what may be forgotten afterwards.
use Rattle.std.proofs.Common.{◌≡◌, ℕ, List, Bool, true, false, ap, ap₂, ◌∙◌, refl, length}
use Rattle.std.specs.Prelude.{pos, ◌||◌, not, slice_get, Option, Some, None, Result, Ok, Err, if◌then◌else◌}
use Rattle.std.specs.Option.{ok_or, option_map}
use Rattle.pybuf_value.specs.declared.faults.Fault.{Fault}
use Rattle.pybuf_value.specs.declared.faults.Fault.TheVariants as fault
use Rattle.pybuf_value.specs.declared.snaps.Snap.{Snap}
use Rattle.pybuf_value.specs.declared.values.CompareOp.{CompareOp}
use Rattle.pybuf_value.specs.declared.values.Item.{Item}
use Rattle.pybuf_value.specs.declared.values.Item.TheVariants as item
use Rattle.pybuf_value.specs.declared.values.PySlice.{PySlice}
use Rattle.pybuf_value.specs.declared.values.Scalar.TheVariants as scalar
use Rattle.pybuf_value.specs.declared.values.Value.{Value}
use Rattle.pybuf_value.specs.declared.values.Value.TheVariants as value
use Rattle.pybuf_value.specs.Numbers.{number_of}
use Rattle.pybuf_value.specs.Order.{is_order}
use Rattle.pybuf_value.specs.Refusing.{◌>>=◌, unless}
use Rattle.pybuf_value.specs.Texts.{text_in, fitted}
use Rattle.pybuf_index.specs.Parts.{saturated_parts_of}
use Rattle.pybuf_index.specs.Places.{entry_in}
use Rattle.pybuf_command.specs.declared.kinds.ExporterKind.{ExporterKind}
use Rattle.pybuf_command.specs.declared.kinds.ExporterKind.TheVariants as kind
use Rattle.pybuf_command.specs.declared.kinds.Subject.{Subject}
use Rattle.pybuf_command.specs.declared.kinds.Subject.TheVariants as subject
use Rattle.pybuf_command.specs.declared.commands.Verb.{Verb}
use Rattle.pybuf_command.specs.declared.commands.Verb.TheVariants as verb
use Rattle.pybuf_command.specs.declared.commands.LocalReply.{LocalReply}
use Rattle.pybuf_command.specs.declared.commands.LocalReply.TheVariants as reply
use Rattle.pybuf_command.specs.declared.commands.PropertyName.{PropertyName}
use Rattle.pybuf_command.specs.declared.commands.PropertyName.TheVariants as name
use Rattle.pybuf_command.specs.declared.methods.MethodCall.{MethodCall}
use Rattle.pybuf_command.specs.Kinds.{of_byte_array, holds_readonly}
use Rattle.pybuf_desc.specs.Layouts.{Layout, bytes_layout_from}
use Rattle.pybuf_desc.specs.Contiguous.{is_contiguous_layout}
use Rattle.pybuf_desc.specs.Items.{content_of_layout}
use Rattle.pybuf_memoryview.specs.Items.{index_in, has_dimensions, piece_by}
use Rattle.pybuf_memoryview.specs.Keys.{item_of_key, names_itself}
use Rattle.pybuf_methods.specs.Methods.{method_reply}
use Rattle.pybuf_methods.specs.Sought.{contains_in}
use Rattle.pybuf_methods.specs.Shaped.{hex_of}
use Rattle.pybuf_state.specs.Exporter.{Exporter, View, Iterator, whole_layout, view_at, live_layout, with_view, released_at, iterator_at, with_iterator, iterator_put}
use Rattle.pybuf_state.specs.Keeps.{is_vector}
use Rattle.pybuf_state.specs.Loans.{Lent, snaps_of}
use Rattle.pybuf_state.specs.Snaps.{snap_of_view}
use Rattle.pybuf_verbs_views.specs.View as view
use Rattle.pybuf_verbs_views.specs.Range as range
use Rattle.pybuf_verbs_views.specs.Slice as slice
use Rattle.pybuf_verbs_views.specs.Cast as cast
use Rattle.pybuf_verbs_views.specs.Release as release
use Rattle.pybuf_verbs_views.specs.Enter as enter
use Rattle.pybuf_verbs_views.specs.Contiguous as contiguous
use Rattle.pybuf_verbs_views.specs.ToReadonly as readonly
use Rattle.pybuf_verbs_reads.specs.Get as get
use Rattle.pybuf_verbs_reads.specs.ToBytes as whole
use Rattle.pybuf_verbs_reads.specs.Len as len
use Rattle.pybuf_verbs_reads.specs.Property as property
use Rattle.pybuf_verbs_reads.specs.ToList as lists
use Rattle.pybuf_verbs_compare.specs.Compare as compare
use Rattle.pybuf_verbs_compare.specs.Hash as hash
use Rattle.pybuf_verbs_compare.specs.Repr as shown
use Rattle.pybuf_verbs_writes.specs.Set as set
use Rattle.pybuf_verbs_writes.specs.Assign as assign
use Rattle.pybuf_verbs_methods.specs.Calls as calls
use Rattle.pybuf_verbs_iters.specs.Iterators as iterators
use Rattle.pybuf_verbs_edits.specs.Shrinking.{delete_of_view}
use Rattle.pybuf_exporter.specs.Step.{effect_on_view, get_of_view, set_through_view}
use Rattle.pybuf_forgetting.specs.Forgotten.{no_layout, forgotten_view, forgotten_subject, forgotten_iterator, forgotten}
use Rattle.pybuf_forgetting.proofs.Reading.{read}
use Rattle.pybuf_forgetting.proofs.Basics.{view_seen, iterator_seen, live_same, exports_same, views_long, iterators_long, twice_is_once, bytes_twice, views_added, iterators_added, views_put, iterators_put}

-- ---- what is left of an effect once its exporter forgets

abbrev pub Effect : Type 0
Effect = Result (Exporter × LocalReply) Fault

abbrev pub told : Effect → Effect
told r = r >>= λ after. Ok (forgotten after.0, after.1)

pub told_bind : {A : Type 0} (r s : Result A Fault) (f g : A → Effect) → r ≡ s → ((a : A) → told (f a) ≡ told (g a)) → told (r >>= f) ≡ told (s >>= g)
told_bind (Ok a) s f g same after = after a ∙ ap (λ t. told (t >>= g)) same
told_bind (Err x) s f g same after = ap (λ t. told (t >>= g)) same

pub told_after : {A : Type 0} (r : Result A Fault) (f g : A → Effect) → ((a : A) → told (f a) ≡ told (g a)) → told (r >>= f) ≡ told (r >>= g)
told_after r f g each = told_bind r r f g refl each

pub told_if : (b : Bool) (r s t u : Effect) → told r ≡ told t → told s ≡ told u → told (if b then r else s) ≡ told (if b then t else u)
told_if true r s t u this that = this
told_if false r s t u this that = that

abbrev ended : Exporter → LocalReply → Effect
ended e r = Ok (e, r)

-- nothing changes
pub told_same : (e : Exporter) (r : LocalReply) → told (ended (forgotten e) r) ≡ told (ended e r)
told_same e r = ap (λ new. ended new r) (twice_is_once e)

-- other bytes
pub told_bytes : (e : Exporter) (bytes : List ℕ) (r : LocalReply) → told (ended (record (forgotten e) { bytes = bytes }) r) ≡ told (ended (record e { bytes = bytes }) r)
told_bytes e bytes r = ap (λ new. ended new r) (bytes_twice e bytes)

-- one more view
told_view : (e : Exporter) (layout : Layout) → told (Ok (with_view (forgotten e) layout)) ≡ told (Ok (with_view e layout))
told_view e layout = ap₂ (λ new n. ended new (reply.View n)) (views_added e (record { made_at = length e.bytes; layout = layout; released = false })) (views_long e)

-- one more iterator
told_iterator : (e : Exporter) (s : Subject) → told (Ok (with_iterator (forgotten e) s)) ≡ told (Ok (with_iterator e s))
told_iterator e s = ap₂ (λ new n. ended new (reply.Iter n)) (iterators_added e (record { subject = s; position = 0; exhausted = false })) (iterators_long e)

-- an iterator that is moved
told_put : (e : Exporter) (k : ℕ) (it : Iterator) (r : LocalReply) → told (ended (iterator_put (forgotten e) k it) r) ≡ told (ended (iterator_put e k it) r)
told_put e k it r = ap (λ new. ended new r) (iterators_put e k it)

-- an effect that begins with an unreleased view
live : (e : Exporter) (k : ℕ) (f g : Layout → Effect) → ((layout : Layout) → told (f layout) ≡ told (g layout)) → told (live_layout (forgotten e) k >>= f) ≡ told (live_layout e k >>= g)
live e k f g each = told_bind (live_layout (forgotten e) k) (live_layout e k) f g (live_same e k) each

-- an effect that begins with a view, released or not
viewed_by : (o : Option View) (f g : View → Effect) → ((v : View) → told (f (forgotten_view v)) ≡ told (g v)) → told (ok_or (option_map forgotten_view o) fault.UnknownName >>= f) ≡ told (ok_or o fault.UnknownName >>= g)
viewed_by None f g each = refl
viewed_by (Some v) f g each = each v

viewed : (e : Exporter) (k : ℕ) (f g : View → Effect) → ((v : View) → told (f (forgotten_view v)) ≡ told (g v)) → told (view_at (forgotten e) k >>= f) ≡ told (view_at e k >>= g)
viewed e k f g each = ap (λ r. told (r >>= f)) (view_seen e k) ∙ viewed_by (slice_get e.views k) f g each

-- an effect that begins with an iterator
iterated_by : (o : Option Iterator) (f g : Iterator → Effect) → ((it : Iterator) → told (f (forgotten_iterator it)) ≡ told (g it)) → told (ok_or (option_map forgotten_iterator o) fault.UnknownName >>= f) ≡ told (ok_or o fault.UnknownName >>= g)
iterated_by None f g each = refl
iterated_by (Some it) f g each = each it

iterated : (e : Exporter) (k : ℕ) (f g : Iterator → Effect) → ((it : Iterator) → told (f (forgotten_iterator it)) ≡ told (g it)) → told (iterator_at (forgotten e) k >>= f) ≡ told (iterator_at e k >>= g)
iterated e k f g each = ap (λ r. told (r >>= f)) (iterator_seen e k) ∙ iterated_by (slice_get e.iterators k) f g each

-- ---- the exporter itself

pub view_of_own : (e : Exporter) → told (view.view_of_own (forgotten e)) ≡ told (view.view_of_own e)
view_of_own e = told_view e (whole_layout e)

pub range_of_own : (e : Exporter) (from to : Value) → told (range.range_of_own (forgotten e) from to) ≡ told (range.range_of_own e from to)
range_of_own e from to =
    told_after (number_of from) _ _ (λ first. told_after (number_of to) _ _ (λ end. told_after (range.part_between (length e.bytes) first end) _ _ (λ part.
    told_view e (bytes_layout_from part.0 part.1 (holds_readonly e.kind)))))

byte_of_own : (e : Exporter) (key : Value) → told (get.byte_of_own (forgotten e) key) ≡ told (get.byte_of_own e key)
byte_of_own e key = told_after (index_in key) _ _ (λ index. told_after (entry_in (length e.bytes) index) _ _ (λ place. told_same e _))

part_of_own : (e : Exporter) (key : Value) → told (get.part_of_own (forgotten e) key) ≡ told (get.part_of_own e key)
part_of_own e (value.Slice s) = told_after (saturated_parts_of s) _ _ (λ parts. told_same e _)
part_of_own e (value.One s) = byte_of_own e (value.One s)
part_of_own e (value.Tuple parts) = byte_of_own e (value.Tuple parts)
part_of_own e (value.List parts) = byte_of_own e (value.List parts)
part_of_own e (value.Slices slices) = byte_of_own e (value.Slices slices)

in_kind : (k : ExporterKind) (r s : Effect) → told r ≡ told s → told (get.get_in_kind k r) ≡ told (get.get_in_kind k s)
in_kind (kind.Vector b) r s same = refl
in_kind kind.Bytes r s same = same
in_kind kind.ByteArray r s same = same

pub get_of_own : (e : Exporter) (key : Value) → told (get.get_of_own (forgotten e) key) ≡ told (get.get_of_own e key)
get_of_own e key = in_kind e.kind (get.part_of_own (forgotten e) key) (get.part_of_own e key) (part_of_own e key)

pub of_kind : (k : ExporterKind) (r s : Effect) → told r ≡ told s → told (of_byte_array k r) ≡ told (of_byte_array k s)
of_kind kind.ByteArray r s same = same
of_kind (kind.Vector b) r s same = refl
of_kind kind.Bytes r s same = refl

pub set_of_own : (e : Exporter) (key v : Value) → told (set.set_of_own (forgotten e) key v) ≡ told (set.set_of_own e key v)
set_of_own e key v =
    of_kind e.kind (set.byte_set (forgotten e) key v) (set.byte_set e key v)
    (told_after (index_in key) _ _ (λ index. told_after _ _ _ (λ byte. told_after (entry_in (length e.bytes) index) _ _ (λ place. told_bytes e _ reply.Ok))))

pub bytes_of_own : (e : Exporter) (order : Option Value) → told (whole.bytes_of_own (forgotten e) order) ≡ told (whole.bytes_of_own e order)
bytes_of_own e None = told_same e _
bytes_of_own e (Some order) = refl

pub len_of_own : (e : Exporter) → told (len.len_of_own (forgotten e)) ≡ told (len.len_of_own e)
len_of_own e = told_same e _

pub property_of_own : (e : Exporter) (p : PropertyName) → told (property.property_of_own (forgotten e) p) ≡ told (property.property_of_own e p)
property_of_own e name.Exports = ap₂ (λ new n. ended new (reply.Item (len.count_item n))) (twice_is_once e) (exports_same e)
property_of_own e _ = refl

pub compare_of_own : (e : Exporter) (op : CompareOp) (v : Value) (lents : List Lent) → told (compare.compare_of_own (forgotten e) op v lents) ≡ told (compare.compare_of_own e op v lents)
compare_of_own e op v lents =
    told_after (unless (is_vector e.kind) fault.UnknownName) _ _ (λ _. told_after (unless (compare.has_no_order_with e.kind op (compare.other_in v lents)) fault.Kind) _ _ (λ _. told_same e _))

pub hash_of_own : (e : Exporter) → told (hash.hash_of_own (forgotten e)) ≡ told (hash.hash_of_own e)
hash_of_own e = told_after (unless (is_vector e.kind) fault.UnknownName) _ _ (λ _. told_after (unless (not (holds_readonly e.kind)) fault.Kind) _ _ (λ _. told_same e _))

pub repr_of_own : (e : Exporter) → told (shown.repr_of_own (forgotten e)) ≡ told (shown.repr_of_own e)
repr_of_own e = told_after (unless (is_vector e.kind) fault.UnknownName) _ _ (λ _. told_after (fitted (shown.shown_bytes e.kind e.bytes)) _ _ (λ text. told_same e _))

pub iter_of_own : (e : Exporter) → told (iterators.iter_of_own (forgotten e)) ≡ told (iterators.iter_of_own e)
iter_of_own e = told_after (unless (is_vector e.kind) fault.UnknownName) _ _ (λ _. told_iterator e subject.Own)

pub contains_of_own : (e : Exporter) (v : Value) (pairs : List (ℕ × Snap)) → told (calls.contains_of_own (forgotten e) v pairs) ≡ told (calls.contains_of_own e v pairs)
contains_of_own e v pairs = told_after (unless (is_vector e.kind) fault.UnknownName) _ _ (λ _. told_after (contains_in pairs e.bytes v) _ _ (λ found. told_same e _))

pub call_of_own : (e : Exporter) (call : MethodCall) (pairs : List (ℕ × Snap)) → told (calls.call_of_own (forgotten e) call pairs) ≡ told (calls.call_of_own e call pairs)
call_of_own e call pairs = told_after (unless (is_vector e.kind) fault.UnknownName) _ _ (λ _. told_after (method_reply pairs e.bytes call.name call.args) _ _ (λ given. told_same e _))

-- ---- views

view_of_view : (e : Exporter) (k : ℕ) → told (view.view_of_view (forgotten e) k) ≡ told (view.view_of_view e k)
view_of_view e k = live e k _ _ (λ layout. told_view e layout)

slice_of_view : (e : Exporter) (k : ℕ) (s : PySlice) → told (slice.slice_of_view (forgotten e) k s) ≡ told (slice.slice_of_view e k s)
slice_of_view e k s = live e k _ _ (λ layout. told_after (has_dimensions layout) _ _ (λ _. told_after (saturated_parts_of s) _ _ (λ parts. told_view e _)))

item_of_view : (e : Exporter) (k : ℕ) (key : Value) → told (get.item_of_view (forgotten e) k key) ≡ told (get.item_of_view e k key)
item_of_view e k key =
    live e k _ _ (λ layout. told_if (names_itself layout.shape key) _ _ _ _ (told_same e reply.Itself) (told_after (item_of_key layout.shape key) _ _ (λ number. told_same e _)))

get_view : (e : Exporter) (k : ℕ) (key : Value) → told (get_of_view (forgotten e) k key) ≡ told (get_of_view e k key)
get_view e k (value.Slice s) = slice_of_view e k s
get_view e k (value.One s) = item_of_view e k (value.One s)
get_view e k (value.Tuple parts) = item_of_view e k (value.Tuple parts)
get_view e k (value.List parts) = item_of_view e k (value.List parts)
get_view e k (value.Slices slices) = item_of_view e k (value.Slices slices)

cast_of_view : (e : Exporter) (k : ℕ) (format : Value) (shape : Option Value) → told (cast.cast_of_view (forgotten e) k format shape) ≡ told (cast.cast_of_view e k format shape)
cast_of_view e k format shape =
    live e k _ _ (λ layout. told_after (unless (not (is_contiguous_layout layout)) fault.Kind) _ _ (λ _. told_after (text_in format) _ _ (λ text. told_after (cast.layout_in_shape layout text shape) _ _ (λ new. told_view e new))))

column_cast_of_view : (e : Exporter) (k : ℕ) (format shape : Value) → told (cast.column_cast_of_view (forgotten e) k format shape) ≡ told (cast.column_cast_of_view e k format shape)
column_cast_of_view e k format shape =
    live e k _ _ (λ layout. told_after (unless (not (is_contiguous_layout layout)) fault.Kind) _ _ (λ _. told_after (text_in format) _ _ (λ text. told_after (cast.column_layout_in layout text shape) _ _ (λ new. told_view e new))))

-- a view that is released, whatever was known of it
abbrev gone : View → View
gone v = record v { released = true }

release_by : (e : Exporter) (k : ℕ) (o : Option View)
    → told ((ok_or (option_map forgotten_view o) fault.UnknownName >>= λ v. Ok (released_at (forgotten e) k v)) >>= λ new. ended new reply.Ok) ≡ told ((ok_or o fault.UnknownName >>= λ v. Ok (released_at e k v)) >>= λ new. ended new reply.Ok)
release_by e k None = refl
release_by e k (Some v) = ap (λ new. ended new reply.Ok) (views_put e k (gone (forgotten_view v)) (gone v) refl)

release_of_view : (e : Exporter) (k : ℕ) → told (release.release_of_view (forgotten e) k) ≡ told (release.release_of_view e k)
release_of_view e k = ap (λ (r : Result View Fault). told ((r >>= λ v. Ok (released_at (forgotten e) k v)) >>= λ new. ended new reply.Ok)) (view_seen e k) ∙ release_by e k (slice_get e.views k)

enter_of_view : (e : Exporter) (k : ℕ) → told (enter.enter_of_view (forgotten e) k) ≡ told (enter.enter_of_view e k)
enter_of_view e k = live e k _ _ (λ layout. told_same e reply.Itself)

contiguous_of_view : (e : Exporter) (k : ℕ) → told (contiguous.contiguous_of_view (forgotten e) k) ≡ told (contiguous.contiguous_of_view e k)
contiguous_of_view e k = live e k _ _ (λ layout. told_same e _)

toreadonly_of_view : (e : Exporter) (k : ℕ) → told (readonly.toreadonly_of_view (forgotten e) k) ≡ told (readonly.toreadonly_of_view e k)
toreadonly_of_view e k = live e k _ _ (λ layout. told_view e _)

bytes_of_view : (e : Exporter) (k : ℕ) (order : Option Value) → told (whole.bytes_of_view (forgotten e) k order) ≡ told (whole.bytes_of_view e k order)
bytes_of_view e k order = live e k _ _ (λ layout. told_after (whole.is_column_order layout order) _ _ (λ columns. told_same e _))

list_of_view : (e : Exporter) (k : ℕ) → told (lists.list_of_view (forgotten e) k) ≡ told (lists.list_of_view e k)
list_of_view e k = live e k _ _ (λ layout. told_same e _)

len_of_view : (e : Exporter) (k : ℕ) → told (len.len_of_view (forgotten e) k) ≡ told (len.len_of_view e k)
len_of_view e k = live e k _ _ (λ layout. told_after (has_dimensions layout) _ _ (λ _. told_same e _))

property_of_view : (e : Exporter) (k : ℕ) (p : PropertyName) → told (property.property_of_view (forgotten e) k p) ≡ told (property.property_of_view e k p)
property_of_view e k p =
    told_after (unless (property.is_exports p) fault.UnknownName) _ _ (λ _. live e k _ _ (λ layout. told_after (property.property_of_layout layout p) _ _ (λ answer. told_same e answer)))

delete_view : (e : Exporter) (k : ℕ) → told (delete_of_view (forgotten e) k) ≡ told (delete_of_view e k)
delete_view e k = live e k _ _ (λ layout. refl)

none_equal : (bytes : List ℕ) (made_at : ℕ) (layout : Layout) (o : Option Snap)
    → compare.equals_snap (snap_of_view bytes (record { made_at = 0; layout = no_layout; released = true })) o ≡ compare.equals_snap (snap_of_view bytes (record { made_at = made_at; layout = layout; released = true })) o
none_equal bytes made_at layout None = refl
none_equal bytes made_at layout (Some s) = refl

equal_seen : (bytes : List ℕ) (k : ℕ) (v : Value) (lents : List Lent) (made_at : ℕ) (layout : Layout) (released : Bool)
    → compare.equals_other k (snap_of_view bytes (forgotten_view (record { made_at = made_at; layout = layout; released = released }))) v lents ≡ compare.equals_other k (snap_of_view bytes (record { made_at = made_at; layout = layout; released = released })) v lents
equal_seen bytes k v lents made_at layout false = refl
equal_seen bytes k v lents made_at layout true = ap (λ (b : Bool). compare.is_same_view k v lents || b) (none_equal bytes made_at layout (compare.other_in v lents))

compare_of_view : (e : Exporter) (k : ℕ) (op : CompareOp) (v : Value) (lents : List Lent) → told (compare.compare_of_view (forgotten e) k op v lents) ≡ told (compare.compare_of_view e k op v lents)
compare_of_view e k op v lents =
    viewed e k _ _ (λ w. told_after (unless (is_order op) fault.Kind) _ _ (λ _.
    told_same e _ ∙ ap (λ (b : Bool). told (ended e (reply.Truth (compare.equality_answer op b)))) (equal_seen e.bytes k v lents w.made_at w.layout w.released)))

hash_of_view : (e : Exporter) (k : ℕ) → told (hash.hash_of_view (forgotten e) k) ≡ told (hash.hash_of_view e k)
hash_of_view e k = live e k _ _ (λ layout. told_after (unless (not layout.readonly) fault.Value) _ _ (λ _. told_same e _))

repr_of_view : (e : Exporter) (k : ℕ) → told (shown.repr_of_view (forgotten e) k) ≡ told (shown.repr_of_view e k)
repr_of_view e k = viewed e k _ _ (λ v. told_same e _)

iter_of_view : (e : Exporter) (k : ℕ) → told (iterators.iter_of_view (forgotten e) k) ≡ told (iterators.iter_of_view e k)
iter_of_view e k = live e k _ _ (λ layout. told_iterator e (subject.View k))

hex_of_view : (e : Exporter) (k : ℕ) (sep group : Option Value) (pairs : List (ℕ × Snap)) → told (calls.hex_of_view (forgotten e) k sep group pairs) ≡ told (calls.hex_of_view e k sep group pairs)
hex_of_view e k sep group pairs = live e k _ _ (λ layout. told_after (hex_of pairs sep group (content_of_layout e.bytes layout)) _ _ (λ text. told_same e _))

target_same : (e : Exporter) (k : ℕ) (key v : Value) → set.set_target (forgotten e) k key v ≡ set.set_target e k key v
target_same e k key v = read (live_layout (forgotten e) k) (live_layout e k) _ (live_same e k)

set_of_view : (e : Exporter) (k : ℕ) (key v : Value) (lents : List Lent) → told (set.set_of_view (forgotten e) k key v lents) ≡ told (set.set_of_view e k key v lents)
set_of_view e k key v lents =
    told_bind (set.set_target (forgotten e) k key v) (set.set_target e k key v) _ _ (target_same e k key v) (λ target.
    told_after (piece_by target.0.format (snaps_of lents) v) _ _ (λ piece. told_bytes e _ reply.Ok))

slice_target_same : (e : Exporter) (k : ℕ) (s : PySlice) (v : Value) → assign.assign_target (forgotten e) k s v ≡ assign.assign_target e k s v
slice_target_same e k s v = read (live_layout (forgotten e) k) (live_layout e k) _ (live_same e k)

assign_of_view : (e : Exporter) (k : ℕ) (s : PySlice) (v : Value) (lents : List Lent) → told (assign.assign_of_view (forgotten e) k s v lents) ≡ told (assign.assign_of_view e k s v lents)
assign_of_view e k s v lents =
    told_bind (assign.assign_target (forgotten e) k s v) (assign.assign_target e k s v) _ _ (slice_target_same e k s v) (λ target.
    told_after (assign.source_in v lents) _ _ (λ source. told_after (unless source.released fault.Value) _ _ (λ _.
    told_after (unless (not (assign.has_form_of target source.format source.itemsize source.shape)) fault.Value) _ _ (λ _. told_bytes e _ reply.Ok))))

set_through : (e : Exporter) (k : ℕ) (key v : Value) (lents : List Lent) → told (set_through_view (forgotten e) k key v lents) ≡ told (set_through_view e k key v lents)
set_through e k (value.Slice s) v lents = assign_of_view e k s v lents
set_through e k (value.One s) v lents = set_of_view e k (value.One s) v lents
set_through e k (value.Tuple parts) v lents = set_of_view e k (value.Tuple parts) v lents
set_through e k (value.List parts) v lents = set_of_view e k (value.List parts) v lents
set_through e k (value.Slices slices) v lents = set_of_view e k (value.Slices slices) v lents

pub view_effect : (e : Exporter) (k : ℕ) (v : Verb) (lents : List Lent) → told (effect_on_view (forgotten e) k v lents) ≡ told (effect_on_view e k v lents)
view_effect e k verb.View lents = view_of_view e k
view_effect e k (verb.Get key) lents = get_view e k key
view_effect e k (verb.Set key v) lents = set_through e k key v lents
view_effect e k (verb.Cast format shape) lents = cast_of_view e k format shape
view_effect e k (verb.CastF format shape) lents = column_cast_of_view e k format shape
view_effect e k (verb.ToBytes order) lents = bytes_of_view e k order
view_effect e k verb.Release lents = release_of_view e k
view_effect e k verb.Enter lents = enter_of_view e k
view_effect e k verb.Exit lents = release_of_view e k
view_effect e k verb.ToContiguous lents = contiguous_of_view e k
view_effect e k verb.ToList lents = list_of_view e k
view_effect e k verb.Len lents = len_of_view e k
view_effect e k (verb.Property p) lents = property_of_view e k p
view_effect e k verb.ToReadonly lents = toreadonly_of_view e k
view_effect e k (verb.Del key) lents = delete_view e k
view_effect e k (verb.Compare op other) lents = compare_of_view e k op other lents
view_effect e k verb.Hash lents = hash_of_view e k
view_effect e k verb.Repr lents = repr_of_view e k
view_effect e k verb.Iter lents = iter_of_view e k
view_effect e k (verb.Hex sep group) lents = hex_of_view e k sep group (snaps_of lents)
view_effect e k _ lents = refl

-- ---- iterators

iter_of_iterator : (e : Exporter) (k : ℕ) → told (iterators.iter_of_iterator (forgotten e) k) ≡ told (iterators.iter_of_iterator e k)
iter_of_iterator e k = iterated e k _ _ (λ it. told_same e reply.Itself)

item_seen : (e : Exporter) (s : Subject) (position : ℕ) → iterators.item_over (forgotten e) s position ≡ iterators.item_over e s position
item_seen e subject.Own position = refl
item_seen e (subject.View v) position = ap (λ (r : Result Layout Fault). r >>= λ layout. iterators.entry_at e layout position) (live_same e v)
item_seen e (subject.Iter j) position = refl

moved_on : (e : Exporter) (k : ℕ) (it : Iterator) (x : Option Item) → told (Ok (iterators.moved_on (forgotten e) k it x)) ≡ told (Ok (iterators.moved_on e k it x))
moved_on e k it (Some x) = told_put e k _ (reply.Item x)
moved_on e k it None = told_put e k _ reply.Stop

next_by : (e : Exporter) (k : ℕ) (s : Subject) (position : ℕ) (exhausted : Bool)
    → told (iterators.next_unless exhausted (forgotten e) k (forgotten_iterator (record { subject = s; position = position; exhausted = exhausted }))) ≡ told (iterators.next_unless exhausted e k (record { subject = s; position = position; exhausted = exhausted }))
next_by e k s position true = told_same e reply.Stop
next_by e k s position false = told_bind (iterators.item_over (forgotten e) s position) (iterators.item_over e s position) _ _ (item_seen e s position) (λ x. moved_on e k (record { subject = s; position = position; exhausted = false }) x)

next_of_iterator : (e : Exporter) (k : ℕ) → told (iterators.next_of_iterator (forgotten e) k) ≡ told (iterators.next_of_iterator e k)
next_of_iterator e k = iterated e k _ _ (λ it. next_by e k it.subject it.position it.exhausted)

over_bytes_seen : (s : Subject) → iterators.is_over_bytes (forgotten_subject s) ≡ iterators.is_over_bytes s
over_bytes_seen subject.Own = refl
over_bytes_seen (subject.View k) = refl
over_bytes_seen (subject.Iter k) = refl

over_bytes : (exhausted : Bool) (s : Subject) → iterators.is_over_bytes (if exhausted then forgotten_subject s else s) ≡ iterators.is_over_bytes s
over_bytes true s = over_bytes_seen s
over_bytes false s = refl

-- an effect that begins with an iterator over bytes
abbrev if_over_bytes : Iterator → Result Iterator Fault
if_over_bytes it = unless (not (iterators.is_over_bytes it.subject)) fault.UnknownName >>= λ _. Ok it

over_then : (it : Iterator) (f g : Iterator → Effect) (refused : Bool) → told (f (forgotten_iterator it)) ≡ told (g it)
    → told ((unless refused fault.UnknownName >>= λ _. Ok (forgotten_iterator it)) >>= f) ≡ told ((unless refused fault.UnknownName >>= λ _. Ok it) >>= g)
over_then it f g true same = refl
over_then it f g false same = same

over_by : (o : Option Iterator) (f g : Iterator → Effect) → ((it : Iterator) → told (f (forgotten_iterator it)) ≡ told (g it))
    → told ((ok_or (option_map forgotten_iterator o) fault.UnknownName >>= if_over_bytes) >>= f) ≡ told ((ok_or o fault.UnknownName >>= if_over_bytes) >>= g)
over_by None f g each = refl
over_by (Some it) f g each =
    ap (λ (b : Bool). told ((unless (not b) fault.UnknownName >>= λ _. Ok (forgotten_iterator it)) >>= f)) (over_bytes it.exhausted it.subject)
    ∙ over_then it f g (not (iterators.is_over_bytes it.subject)) (each it)

over : (e : Exporter) (k : ℕ) (f g : Iterator → Effect) → ((it : Iterator) → told (f (forgotten_iterator it)) ≡ told (g it)) → told (iterators.iterator_over_bytes (forgotten e) k >>= f) ≡ told (iterators.iterator_over_bytes e k >>= g)
over e k f g each = ap (λ (r : Result Iterator Fault). told ((r >>= if_over_bytes) >>= f)) (iterator_seen e k) ∙ over_by (slice_get e.iterators k) f g each

left_seen : (exhausted : Bool) (count position : ℕ) → iterators.items_left exhausted count (if exhausted then 0 else position) ≡ iterators.items_left exhausted count position
left_seen true count position = refl
left_seen false count position = refl

hint_of_iterator : (e : Exporter) (k : ℕ) → told (iterators.hint_of_iterator (forgotten e) k) ≡ told (iterators.hint_of_iterator e k)
hint_of_iterator e k =
    over e k _ _ (λ it. told_same e _ ∙ ap (λ (n : ℕ). told (ended e (reply.Item (item.One (scalar.Int (pos n)))))) (left_seen it.exhausted (length e.bytes) it.position))

put_by : (e : Exporter) (k : ℕ) (state : Value) (s : Subject) (position : ℕ) (exhausted : Bool)
    → told (iterators.put_unless exhausted (forgotten e) k (forgotten_iterator (record { subject = s; position = position; exhausted = exhausted })) state) ≡ told (iterators.put_unless exhausted e k (record { subject = s; position = position; exhausted = exhausted }) state)
put_by e k state s position true = told_same e reply.Ok
put_by e k state s position false = told_after (number_of state) _ _ (λ number. told_put e k _ reply.Ok)

setstate_of_iterator : (e : Exporter) (k : ℕ) (state : Value) → told (iterators.setstate_of_iterator (forgotten e) k state) ≡ told (iterators.setstate_of_iterator e k state)
setstate_of_iterator e k state = over e k _ _ (λ it. put_by e k state it.subject it.position it.exhausted)

pub iterator_effect : (e : Exporter) (k : ℕ) (v : Verb) → told (iterators.effect_on_iterator (forgotten e) k v) ≡ told (iterators.effect_on_iterator e k v)
iterator_effect e k verb.Iter = iter_of_iterator e k
iterator_effect e k verb.Next = next_of_iterator e k
iterator_effect e k verb.LengthHint = hint_of_iterator e k
iterator_effect e k (verb.SetState state) = setstate_of_iterator e k state
iterator_effect e k _ = refl
