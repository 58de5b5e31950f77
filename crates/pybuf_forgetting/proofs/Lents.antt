-- An effect does the same, whether released views that are lent to it were forgotten or not.
use Rattle.std.proofs.Common.{◌≡◌, ℕ, List, [], ◌∷◌, Bool, true, false, ap, ap₂, sym, ◌∙◌, refl, length}
use Rattle.std.specs.Prelude.{◌==◌, ◌&&◌, ◌||◌, not, codes, map, replicate, Option, Some, None, Result, Ok, Err, if◌then◌else◌}
use Rattle.std.specs.Option.{option_map}
use Rattle.pybuf_value.specs.declared.faults.Fault.{Fault}
use Rattle.pybuf_value.specs.declared.faults.Fault.TheVariants as fault
use Rattle.pybuf_value.specs.declared.snaps.Snap.{Snap}
use Rattle.pybuf_value.specs.declared.snaps.SnapKind.{SnapKind}
use Rattle.pybuf_value.specs.declared.snaps.SnapKind.TheVariants as kind
use Rattle.pybuf_value.specs.declared.values.CompareOp.{CompareOp}
use Rattle.pybuf_value.specs.declared.values.PySlice.{PySlice}
use Rattle.pybuf_value.specs.declared.values.Scalar.{Scalar}
use Rattle.pybuf_value.specs.declared.values.Scalar.TheVariants as scalar
use Rattle.pybuf_value.specs.declared.values.Value.{Value}
use Rattle.pybuf_value.specs.declared.values.Value.TheVariants as value
use Rattle.pybuf_value.specs.Order.{is_order}
use Rattle.pybuf_value.specs.Refusing.{◌>>=◌, unless}
use Rattle.pybuf_value.specs.Snaps as snaps
use Rattle.pybuf_value.specs.Snaps.{is_iterator, content_of}
use Rattle.pybuf_struct.specs.declared.table.Endianness.{Endianness}
use Rattle.pybuf_struct.specs.declared.table.FormatType.{FormatType}
use Rattle.pybuf_struct.specs.declared.table.FormatType.TheVariants as code
use Rattle.pybuf_struct.specs.Formats.{Format, Field, format_of, fields}
use Rattle.pybuf_struct.specs.Packing.{bytes_of, contents_of, room_with_contents, packed_bytes, pascal_field}
use Rattle.pybuf_bytes.specs.Options as options
use Rattle.pybuf_command.specs.declared.kinds.Subject.{Subject}
use Rattle.pybuf_command.specs.declared.kinds.Subject.TheVariants as subject
use Rattle.pybuf_command.specs.declared.commands.Verb.{Verb}
use Rattle.pybuf_command.specs.declared.commands.Verb.TheVariants as verb
use Rattle.pybuf_command.specs.declared.commands.LocalReply.{LocalReply}
use Rattle.pybuf_command.specs.declared.commands.LocalReply.TheVariants as reply
use Rattle.pybuf_command.specs.declared.methods.MethodCall.{MethodCall}
use Rattle.pybuf_command.specs.declared.options.ByteInnerNewOptions.{ByteInnerNewOptions}
use Rattle.pybuf_command.specs.Kinds.{of_byte_array}
use Rattle.pybuf_desc.specs.Layouts.{Layout}
use Rattle.pybuf_desc.specs.Items.{content_of_layout}
use Rattle.pybuf_index.specs.Parts.{saturated_parts_of}
use Rattle.pybuf_memoryview.specs.Items.{piece_by, kind_fault, scalar_in}
use Rattle.pybuf_equality.specs.Equality.{same_view}
use Rattle.pybuf_methods.specs.Methods.{method_reply}
use Rattle.pybuf_methods.specs.Sought.{contains_in}
use Rattle.pybuf_methods.specs.Shaped.{hex_of}
use Rattle.pybuf_state.specs.Exporter.{Exporter, view_at, live_layout}
use Rattle.pybuf_state.specs.Keeps.{is_vector}
use Rattle.pybuf_state.specs.Loans.{Lent, snaps_of}
use Rattle.pybuf_state.specs.Snaps.{snap_of_view}
use Rattle.pybuf_verbs_compare.specs.Compare.{lent_snap, other_in, compare_string, compare_of_own, compare_of_view, bytes_compared, has_no_order, is_lent_view, equals_snap, equals_other, equality_answer}
use Rattle.pybuf_verbs_writes.specs.Set.{set_target, set_of_view}
use Rattle.pybuf_verbs_writes.specs.Assign.{assign_target, lent_source, assigned, assigned_of_value, assign_of_view}
use Rattle.pybuf_verbs_methods.specs.Calls.{call_of_own, contains_of_own, hex_of_view}
use Rattle.pybuf_verbs_edits.specs.Common.{is_own, names_own, is_itself}
use Rattle.pybuf_verbs_edits.specs.Growing as growing
use Rattle.pybuf_verbs_edits.specs.Replacing as replacing
use Rattle.pybuf_exporter.specs.Step.{effect, effect_on_own, effect_on_view, set_in_own, set_through_view}
use Rattle.pybuf_forgetting.specs.Forgotten.{is_released_view, forgotten_snap}
use Rattle.pybuf_forgetting.proofs.Reading as reading
use Rattle.pybuf_forgetting.proofs.Reading.{Alike, bind, after, read, bytes_in, like_in, content_erased}
use Rattle.pybuf_forgetting.proofs.Methods as methods

-- ---- what is lent, with released views forgotten

abbrev pub forgotten_lent : Lent → Lent
forgotten_lent l = record l { snap = forgotten_snap l.snap }

abbrev pub forgotten_lents : List Lent → List Lent
forgotten_lents lents = map forgotten_lent lents

abbrev built : SnapKind → Bool → Bool → List ℕ → ℕ → List ℕ → List ℕ → Bool → Snap
built k released gone format itemsize shape content contiguous = record {
  kind = k;
  format = if gone then codes "B" else format;
  itemsize = if gone then 1 else itemsize;
  shape = if gone then 0 ∷ [] else shape;
  content = if gone then [] else content;
  contiguous = if gone then true else contiguous;
  released = released;
}

built_twice : (k : SnapKind) (released gone : Bool) (format : List ℕ) (itemsize : ℕ) (shape content : List ℕ) (contiguous : Bool)
    → built k released gone (if gone then codes "B" else format) (if gone then 1 else itemsize) (if gone then 0 ∷ [] else shape) (if gone then [] else content) (if gone then true else contiguous) ≡ built k released gone format itemsize shape content contiguous
built_twice k released true format itemsize shape content contiguous = refl
built_twice k released false format itemsize shape content contiguous = refl

pub snap_twice : (s : Snap) → forgotten_snap (forgotten_snap s) ≡ forgotten_snap s
snap_twice s = built_twice s.kind s.released (is_released_view s.kind s.released) s.format s.itemsize s.shape s.content s.contiguous

found_alike : (found : Bool) (s : Snap) (o p : Option Snap) → option_map forgotten_snap o ≡ option_map forgotten_snap p → option_map forgotten_snap (if found then Some s else o) ≡ option_map forgotten_snap (if found then Some (forgotten_snap s) else p)
found_alike true s o p same = ap (λ (t : Snap). let there : Option Snap = Some t in there) (sym (snap_twice s))
found_alike false s o p same = same

named_alike : (lents : List Lent) (h : ℕ) → option_map forgotten_snap (snaps.snap_of (snaps_of lents) h) ≡ option_map forgotten_snap (snaps.snap_of (snaps_of (forgotten_lents lents)) h)
named_alike [] h = refl
named_alike (l ∷ lents) h = found_alike (l.handle == h) l.snap (snaps.snap_of (snaps_of lents) h) (snaps.snap_of (snaps_of (forgotten_lents lents)) h) (named_alike lents h)

alike : (lents : List Lent) → Alike (snaps_of lents) (snaps_of (forgotten_lents lents))
alike lents = record { named = named_alike lents }

-- ---- items that are packed

field_same : (pairs others : List (ℕ × Snap)) → Alike pairs others → (o : Endianness) (c : FormatType) (len : ℕ) (s : Scalar) → bytes_of o pairs c len s ≡ bytes_of o others c len s
field_same pairs others same o code.Char len s = read (snaps.bytes_alone pairs s) (snaps.bytes_alone others s) _ (reading.bytes_alone pairs others same s)
field_same pairs others same o code.Str len s = read (snaps.bytes_like pairs s) (snaps.bytes_like others s) _ (reading.bytes_like pairs others same s)
field_same pairs others same o code.Pascal len s = ap (pascal_field len) (reading.bytes_like pairs others same s)
field_same pairs others same o _ len s = refl

contents_same : (pairs others : List (ℕ × Snap)) → Alike pairs others → (o : Endianness) (fs : List Field) (values : List Scalar) → contents_of o pairs fs values ≡ contents_of o others fs values
unfolding contents_of
contents_same pairs others same o [] [] = refl
contents_same pairs others same o [] (v ∷ values) = refl
contents_same pairs others same o (f ∷ fs) [] = refl
contents_same pairs others same o (f ∷ fs) (v ∷ values) =
    bind (bytes_of o pairs f.code f.length v) (bytes_of o others f.code f.length v) _ _ (field_same pairs others same o f.code f.length v) (λ bytes.
    read (contents_of o pairs fs values) (contents_of o others fs values) _ (contents_same pairs others same o fs values))

packed_same : (pairs others : List (ℕ × Snap)) → Alike pairs others → (f : Format) (values : List Scalar) → packed_bytes f pairs values ≡ packed_bytes f others values
packed_same pairs others same f values =
    ap (λ (contents : Result (List (List ℕ)) Fault). let packed : Result (List ℕ) Fault = (if length values == length (fields f) then room_with_contents (fields f) contents (replicate f.size 0) else Err fault.Struct) in packed)
    (contents_same pairs others same f.order (fields f) values)

piece_same : (pairs others : List (ℕ × Snap)) → Alike pairs others → (text : List ℕ) (v : Value) → piece_by text pairs v ≡ piece_by text others v
piece_same pairs others same text v = after (kind_fault (format_of text)) _ _ (λ format. ap kind_fault (packed_same pairs others same format (scalar_in v ∷ [])))

-- ---- the exporter itself as a value

own_same : (lents : List Lent) (h : ℕ) → names_own lents h ≡ names_own (forgotten_lents lents) h
own_same [] h = refl
own_same (l ∷ lents) h = ap (λ (b : Bool). if l.handle == h then is_own l.subject else b) (own_same lents h)

itself_by : (s : Scalar) (lents : List Lent) → is_itself (value.One s) lents ≡ is_itself (value.One s) (forgotten_lents lents)
itself_by (scalar.Handle h) lents = own_same lents h
itself_by _ lents = refl

itself_same : (v : Value) (lents : List Lent) → is_itself v lents ≡ is_itself v (forgotten_lents lents)
itself_same (value.One s) lents = itself_by s lents
itself_same _ lents = refl

-- ---- edits

extend_same : (e : Exporter) (v : Value) (lents : List Lent) → growing.extend_of_own e v lents ≡ growing.extend_of_own e v (forgotten_lents lents)
extend_same e v lents =
    ap (of_byte_array e.kind) (ap₂ (λ (b : Bool) (r : Result (Exporter × LocalReply) Fault). if b then growing.repeated_unless_empty e 2 else r) (itself_same v lents)
    (read (snaps.bytes_in (snaps_of lents) v) (snaps.bytes_in (snaps_of (forgotten_lents lents)) v) _ (bytes_in (snaps_of lents) (snaps_of (forgotten_lents lents)) (alike lents) v)))

iadd_same : (e : Exporter) (v : Value) (lents : List Lent) → growing.iadd_of_own e v lents ≡ growing.iadd_of_own e v (forgotten_lents lents)
iadd_same e v lents =
    ap (of_byte_array e.kind) (bind (snaps.like_in (snaps_of lents) v) (snaps.like_in (snaps_of (forgotten_lents lents)) v) _ _ (like_in (snaps_of lents) (snaps_of (forgotten_lents lents)) (alike lents) v) (λ bytes.
    read (unless (is_itself v lents) fault.Buffer) (unless (is_itself v (forgotten_lents lents)) fault.Buffer) _ (ap (λ (b : Bool). unless b fault.Buffer) (itself_same v lents))))

init_same : (e : Exporter) (given : ByteInnerNewOptions) (lents : List Lent) → replacing.init_of_own e given lents ≡ replacing.init_of_own e given (forgotten_lents lents)
init_same e given lents =
    ap (of_byte_array e.kind) (read (options.bytes_of_options (snaps_of lents) given.source given.encoding given.errors) (options.bytes_of_options (snaps_of (forgotten_lents lents)) given.source given.encoding given.errors) (replacing.replaced_all e)
    (methods.bytes_of_options (snaps_of lents) (snaps_of (forgotten_lents lents)) (alike lents) given.source given.encoding given.errors))

slice_set_same : (e : Exporter) (slice : PySlice) (v : Value) (lents : List Lent) → replacing.assign_of_own e slice v lents ≡ replacing.assign_of_own e slice v (forgotten_lents lents)
slice_set_same e slice v lents =
    ap (of_byte_array e.kind) (after (saturated_parts_of slice) _ _ (λ parts.
    read (snaps.bytes_in (snaps_of lents) v) (snaps.bytes_in (snaps_of (forgotten_lents lents)) v) _ (bytes_in (snaps_of lents) (snaps_of (forgotten_lents lents)) (alike lents) v)))

-- ---- comparison

lent_first : (lents : List Lent) → lent_snap (forgotten_lents lents) ≡ option_map forgotten_snap (lent_snap lents)
lent_first [] = refl
lent_first (l ∷ lents) = refl

string_erased : (e : Exporter) (op : CompareOp) (o : Option Snap) → compare_string e op (option_map forgotten_snap o) ≡ compare_string e op o
string_erased e op None = refl
string_erased e op (Some s) = ap (λ (r : Result (List ℕ) Fault). unless (has_no_order e.kind op s.kind) fault.Kind >>= λ _. (let answer : Result (Exporter × LocalReply) Fault = Ok (e, bytes_compared e.bytes op r) in answer)) (content_erased (Some s))

string_by : (e : Exporter) (op : CompareOp) (s : Scalar) (lents : List Lent) → compare_string e op (other_in (value.One s) lents) ≡ compare_string e op (other_in (value.One s) (forgotten_lents lents))
string_by e op (scalar.Handle h) lents = sym (string_erased e op (lent_snap lents)) ∙ ap (compare_string e op) (sym (lent_first lents))
string_by e op _ lents = refl

string_same : (e : Exporter) (op : CompareOp) (v : Value) (lents : List Lent) → compare_string e op (other_in v lents) ≡ compare_string e op (other_in v (forgotten_lents lents))
string_same e op (value.One s) lents = string_by e op s lents
string_same e op _ lents = refl

compare_own_same : (e : Exporter) (op : CompareOp) (v : Value) (lents : List Lent) → compare_of_own e op v lents ≡ compare_of_own e op v (forgotten_lents lents)
compare_own_same e op v lents = after (unless (is_vector e.kind) fault.UnknownName) _ _ (λ _. string_same e op v lents)

equal_built : (left : Snap) (unequal : Bool) (k : SnapKind) (released : Bool) (format : List ℕ) (itemsize : ℕ) (shape content : List ℕ) (contiguous : Bool)
    → (not (unequal || released) && (not (is_iterator k) && same_view left (built k released (is_released_view k released) format itemsize shape content contiguous)))
    ≡ (not (unequal || released) && (not (is_iterator k) && same_view left (built k released false format itemsize shape content contiguous)))
equal_built left true kind.View released format itemsize shape content contiguous = refl
equal_built left false kind.View true format itemsize shape content contiguous = refl
equal_built left false kind.View false format itemsize shape content contiguous = refl
equal_built left unequal kind.Bytes released format itemsize shape content contiguous = refl
equal_built left unequal kind.ByteArray released format itemsize shape content contiguous = refl
equal_built left unequal kind.Vector released format itemsize shape content contiguous = refl
equal_built left unequal kind.Iterator released format itemsize shape content contiguous = refl

equal_erased : (left : Snap) (o : Option Snap) → equals_snap left (option_map forgotten_snap o) ≡ equals_snap left o
equal_erased left None = refl
equal_erased left (Some s) = equal_built left left.released s.kind s.released s.format s.itemsize s.shape s.content s.contiguous

equal_lent : (k : ℕ) (left : Snap) (lents : List Lent) → (is_lent_view k lents || equals_snap left (lent_snap lents)) ≡ (is_lent_view k (forgotten_lents lents) || equals_snap left (lent_snap (forgotten_lents lents)))
equal_lent k left [] = refl
equal_lent k left (l ∷ lents) = ap (λ (b : Bool). is_lent_view k (l ∷ lents) || b) (sym (equal_erased left (Some l.snap)))

equal_by : (k : ℕ) (left : Snap) (s : Scalar) (lents : List Lent) → equals_other k left (value.One s) lents ≡ equals_other k left (value.One s) (forgotten_lents lents)
equal_by k left (scalar.Handle h) lents = equal_lent k left lents
equal_by k left _ lents = refl

equal_same : (k : ℕ) (left : Snap) (v : Value) (lents : List Lent) → equals_other k left v lents ≡ equals_other k left v (forgotten_lents lents)
equal_same k left (value.One s) lents = equal_by k left s lents
equal_same k left _ lents = refl

compare_view_same : (e : Exporter) (k : ℕ) (op : CompareOp) (v : Value) (lents : List Lent) → compare_of_view e k op v lents ≡ compare_of_view e k op v (forgotten_lents lents)
compare_view_same e k op v lents =
    after (view_at e k) _ _ (λ view. after (unless (is_order op) fault.Kind) _ _ (λ _.
    ap (λ (b : Bool). let answer : Result (Exporter × LocalReply) Fault = Ok (e, reply.Truth (equality_answer op b)) in answer) (equal_same k (snap_of_view e.bytes view) v lents)))

-- ---- writes through a view

assigned_built : (e : Exporter) (target : Layout) (k : SnapKind) (released : Bool) (format : List ℕ) (itemsize : ℕ) (shape content : List ℕ) (contiguous : Bool)
    → assigned e target (built k released (is_released_view k released) format itemsize shape content contiguous) ≡ assigned e target (built k released false format itemsize shape content contiguous)
assigned_built e target kind.View true format itemsize shape content contiguous = refl
assigned_built e target kind.View false format itemsize shape content contiguous = refl
assigned_built e target kind.Bytes released format itemsize shape content contiguous = refl
assigned_built e target kind.ByteArray released format itemsize shape content contiguous = refl
assigned_built e target kind.Vector released format itemsize shape content contiguous = refl
assigned_built e target kind.Iterator released format itemsize shape content contiguous = refl

assigned_erased : (e : Exporter) (target : Layout) (s : Snap) → assigned e target (forgotten_snap s) ≡ assigned e target s
assigned_erased e target s = assigned_built e target s.kind s.released s.format s.itemsize s.shape s.content s.contiguous

abbrev okay_snap : Snap → Result Snap Fault
okay_snap s = Ok s

assigned_unless : (e : Exporter) (target : Layout) (iterates : Bool) (s : Snap) → ((unless iterates fault.Kind >>= λ _. okay_snap s) >>= assigned e target) ≡ ((unless iterates fault.Kind >>= λ _. okay_snap (forgotten_snap s)) >>= assigned e target)
assigned_unless e target true s = refl
assigned_unless e target false s = sym (assigned_erased e target s)

assigned_lent : (e : Exporter) (target : Layout) (lents : List Lent) → (lent_source lents >>= assigned e target) ≡ (lent_source (forgotten_lents lents) >>= assigned e target)
assigned_lent e target [] = refl
assigned_lent e target (l ∷ lents) = assigned_unless e target (is_iterator l.snap.kind) l.snap

assigned_by : (e : Exporter) (target : Layout) (s : Scalar) (lents : List Lent) → assigned_of_value e target (value.One s) lents ≡ assigned_of_value e target (value.One s) (forgotten_lents lents)
assigned_by e target (scalar.Handle h) lents = assigned_lent e target lents
assigned_by e target _ lents = refl

assigned_same : (e : Exporter) (target : Layout) (v : Value) (lents : List Lent) → assigned_of_value e target v lents ≡ assigned_of_value e target v (forgotten_lents lents)
assigned_same e target (value.One s) lents = assigned_by e target s lents
assigned_same e target _ lents = refl

assign_view_same : (e : Exporter) (k : ℕ) (slice : PySlice) (v : Value) (lents : List Lent) → assign_of_view e k slice v lents ≡ assign_of_view e k slice v (forgotten_lents lents)
assign_view_same e k slice v lents = after (assign_target e k slice v) _ _ (λ target. assigned_same e target v lents)

set_view_same : (e : Exporter) (k : ℕ) (key v : Value) (lents : List Lent) → set_of_view e k key v lents ≡ set_of_view e k key v (forgotten_lents lents)
set_view_same e k key v lents =
    after (set_target e k key v) _ _ (λ target.
    read (piece_by target.0.format (snaps_of lents) v) (piece_by target.0.format (snaps_of (forgotten_lents lents)) v) _ (piece_same (snaps_of lents) (snaps_of (forgotten_lents lents)) (alike lents) target.0.format v))

set_through_same : (e : Exporter) (k : ℕ) (key v : Value) (lents : List Lent) → set_through_view e k key v lents ≡ set_through_view e k key v (forgotten_lents lents)
set_through_same e k (value.Slice slice) v lents = assign_view_same e k slice v lents
set_through_same e k (value.One s) v lents = set_view_same e k (value.One s) v lents
set_through_same e k (value.Tuple parts) v lents = set_view_same e k (value.Tuple parts) v lents
set_through_same e k (value.List parts) v lents = set_view_same e k (value.List parts) v lents
set_through_same e k (value.Slices slices) v lents = set_view_same e k (value.Slices slices) v lents

set_own_same : (e : Exporter) (key v : Value) (lents : List Lent) → set_in_own e key v lents ≡ set_in_own e key v (forgotten_lents lents)
set_own_same e (value.Slice slice) v lents = slice_set_same e slice v lents
set_own_same e _ v lents = refl

-- ---- methods

call_same : (e : Exporter) (call : MethodCall) (lents : List Lent) → call_of_own e call (snaps_of lents) ≡ call_of_own e call (snaps_of (forgotten_lents lents))
call_same e call lents =
    after (unless (is_vector e.kind) fault.UnknownName) _ _ (λ _.
    read (method_reply (snaps_of lents) e.bytes call.name call.args) (method_reply (snaps_of (forgotten_lents lents)) e.bytes call.name call.args) _ (methods.method (snaps_of lents) (snaps_of (forgotten_lents lents)) (alike lents) e.bytes call.name call.args))

contains_same : (e : Exporter) (v : Value) (lents : List Lent) → contains_of_own e v (snaps_of lents) ≡ contains_of_own e v (snaps_of (forgotten_lents lents))
contains_same e v lents =
    after (unless (is_vector e.kind) fault.UnknownName) _ _ (λ _.
    read (contains_in (snaps_of lents) e.bytes v) (contains_in (snaps_of (forgotten_lents lents)) e.bytes v) _ (methods.contains_in (snaps_of lents) (snaps_of (forgotten_lents lents)) (alike lents) e.bytes v))

hex_same : (e : Exporter) (k : ℕ) (sep group : Option Value) (lents : List Lent) → hex_of_view e k sep group (snaps_of lents) ≡ hex_of_view e k sep group (snaps_of (forgotten_lents lents))
hex_same e k sep group lents =
    after (live_layout e k) _ _ (λ layout.
    read (hex_of (snaps_of lents) sep group (content_of_layout e.bytes layout)) (hex_of (snaps_of (forgotten_lents lents)) sep group (content_of_layout e.bytes layout)) _ (methods.hex_of (snaps_of lents) (snaps_of (forgotten_lents lents)) (alike lents) sep group (content_of_layout e.bytes layout)))

-- ---- every effect

own_effect_same : (e : Exporter) (v : Verb) (lents : List Lent) → effect_on_own e v lents ≡ effect_on_own e v (forgotten_lents lents)
own_effect_same e (verb.Set key v) lents = set_own_same e key v lents
own_effect_same e (verb.Compare op v) lents = compare_own_same e op v lents
own_effect_same e (verb.Contains v) lents = contains_same e v lents
own_effect_same e (verb.Call method) lents = call_same e method lents
own_effect_same e (verb.Extend v) lents = extend_same e v lents
own_effect_same e (verb.IAdd v) lents = iadd_same e v lents
own_effect_same e (verb.Init given) lents = init_same e given lents
own_effect_same e _ lents = refl

view_effect_same : (e : Exporter) (k : ℕ) (v : Verb) (lents : List Lent) → effect_on_view e k v lents ≡ effect_on_view e k v (forgotten_lents lents)
view_effect_same e k (verb.Set key v) lents = set_through_same e k key v lents
view_effect_same e k (verb.Compare op v) lents = compare_view_same e k op v lents
view_effect_same e k (verb.Hex sep group) lents = hex_same e k sep group lents
view_effect_same e k _ lents = refl

pub effect_same : (e : Exporter) (s : Subject) (v : Verb) (lents : List Lent) → effect e s v lents ≡ effect e s v (forgotten_lents lents)
effect_same e subject.Own v lents = own_effect_same e v lents
effect_same e (subject.View k) v lents = view_effect_same e k v lents
effect_same e (subject.Iter k) v lents = refl
