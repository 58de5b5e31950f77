-- The view of one field of each record is sound.
use Rattle.std.proofs.Common.{◌≡◌, ◌≢◌, ℕ, zero, suc, ◌+◌, ◌*◌, ◌^◌, ◌<◌, ◌≤◌, ◌/◌, ◌%◌, Bool, true, false, List, [], ◌∷◌, length, map, Option, Some, Result, Ok, IsTrue, refl, sym, ap, ◌∙◌, subst, eqb, arith}
use Rattle.std.proofs.lemmas.Int.{ints}
use Rattle.std.proofs.lemmas.Bool.{lt-ltb, eq-eqb, ne_eqb}
use Rattle.std.specs.Prelude.{All, ℤ, pos, ◌+ℤ◌, ◌*ℤ◌, nat_abs, slice_get, not}
use Rattle.std.specs.Option.{ok_or}
use Rattle.std.specs.List.{flat_map, range_with_len}
use Rattle.std.proofs.lemmas.List.Elements.{All-nil, All-cons, All-map}
use Rattle.std.proofs.lemmas.List.FromFn.{length-map-range_with_len}
use Rattle.std.proofs.Math.Nat.{mul_comm}
use Rattle.pybuf_lemmas.proofs.Numbers.{whole_quotient, positive_is_nonzero, item_ends_before_next}
use Rattle.pybuf_value.specs.declared.faults.Fault.{Fault}
use Rattle.pybuf_value.specs.declared.faults.Fault.TheVariants as fault
use Rattle.pybuf_value.specs.Refusing.{◌>>=◌, unless}
use Rattle.pybuf_struct.specs.Formats.{Format, Field, format_of, fields}
use Rattle.pybuf_struct.specs.Values.{is_length}
use Rattle.pybuf_struct.specs.Laws.{FormatsReadBack}
use Rattle.pybuf_desc.specs.Layouts.{product}
use Rattle.pybuf_desc.specs.Descriptor.{Descriptor}
use Rattle.pybuf_desc.specs.Places.{layout_at}
use Rattle.pybuf_desc.specs.Valid.{IsPlaced, IsInside, nonzero_entries}
use Rattle.pybuf_memoryview.specs.Sized.{is_size_of}
use Rattle.pybuf_command.specs.Kinds.{holds_readonly}
use Rattle.pybuf_command.specs.declared.commands.LocalReply.{LocalReply}
use Rattle.pybuf_command.specs.declared.commands.LocalReply.TheVariants as reply
use Rattle.pybuf_state.specs.Exporter.{Exporter, with_view}
use Rattle.pybuf_state.specs.Laws.{IsSoundLayout}
use Rattle.pybuf_table.specs.Records.{RecordFormat, IsRecordFormat, is_whole}
use Rattle.pybuf_table.specs.FieldTexts.{field_text}
use Rattle.pybuf_table.specs.FieldViews.{field_layout, field_descriptor, view_of_field, with_field_view}
use Rattle.pybuf_table.proofs.Spelled.{field_spelled}

pub fields_within : (count len size : ℕ) → len ≤ size → count * len ≤ count * size
fields_within zero len size short = omega arith
fields_within (suc count) len size short = let more : count * len ≤ count * size = fields_within count len size short in omega (arith, more)

pub fields_fit : (count len size : ℕ) → len ≤ size → count * size < 2 ^ 63 → count * len < 2 ^ 63
fields_fit count len size short fits = let within : count * len ≤ count * size = fields_within count len size short in omega (arith, within)

-- ---- where the items lie

abbrev start_of : ℕ → ℕ → ℕ → ℕ
start_of size offset number = number * size + offset

starts_are : (offset size : ℕ) (numbers : List ℕ) → map nat_abs (flat_map (λ index. (pos offset +ℤ pos index *ℤ pos size) ∷ []) numbers) ≡ map (start_of size offset) numbers
starts_are offset size [] = refl
starts_are offset size (n ∷ numbers) =
    let here : nat_abs (pos offset +ℤ pos n *ℤ pos size) ≡ n * size + offset = omega arith in
    ap (λ (x : ℕ). x ∷ map nat_abs (flat_map (λ index. (pos offset +ℤ pos index *ℤ pos size) ∷ []) numbers)) here ∙ ap (λ (rest : List ℕ). (n * size + offset) ∷ rest) (starts_are offset size numbers)

places_are : (offset size : ℕ) (numbers : List ℕ) → flat_map (λ index. (pos offset +ℤ pos index *ℤ pos size) ∷ []) numbers ≡ map (λ n. pos (start_of size offset n)) numbers
places_are offset size [] = refl
places_are offset size (n ∷ numbers) =
    let swapped : offset + n * size ≡ n * size + offset = omega arith in
    let here : (pos offset +ℤ pos n *ℤ pos size) ≡ pos (n * size + offset) = ap (λ (k : ℕ). pos k) swapped in
    ap (λ (x : ℤ). x ∷ flat_map (λ index. (pos offset +ℤ pos index *ℤ pos size) ∷ []) numbers) here ∙ ap (λ (rest : List ℤ). pos (n * size + offset) ∷ rest) (places_are offset size numbers)

pub layout_is : (r : RecordFormat) (place : Field) (count : ℕ) (readonly : Bool) → layout_at (field_descriptor r place count readonly) place.offset ≡ field_layout r place count readonly
layout_is r place count readonly =
    ap (λ (starts : List ℕ). record (field_layout r place count readonly) { starts = starts }) (starts_are place.offset r.format.size (range_with_len 0 count))

below : (size offset len from count : ℕ) → offset + len ≤ size → All (λ (n : ℕ). start_of size offset n + len ≤ (from + count) * size) (range_with_len from count)
below size offset len from zero inside = All-nil (λ (n : ℕ). start_of size offset n + len ≤ (from + zero) * size)
below size offset len from (suc count) inside =
    let one : from * size + size ≤ (from + suc count) * size = item_ends_before_next from (from + suc count) size (omega arith) in
    let same : from + 1 + count ≡ from + suc count = omega arith in
    let rest : All (λ (n : ℕ). start_of size offset n + len ≤ (from + suc count) * size) (range_with_len (from + 1) count) = rw (← same) (below size offset len (from + 1) count inside) in
    All-cons (λ (n : ℕ). start_of size offset n + len ≤ (from + suc count) * size) from (range_with_len (from + 1) count) (omega (arith, one)) rest

all_below : (size offset len count room : ℕ) → offset + len ≤ size → count * size ≡ room → All (λ (n : ℕ). start_of size offset n + len ≤ room) (range_with_len 0 count)
all_below size offset len count room inside whole =
    let same : (0 + count) * size ≡ room = omega (arith, whole) in
    rw (← same) (below size offset len 0 count inside)

-- ---- what is kept is valid

inside_of : (len room x : ℕ) → x + len ≤ room → IsInside len room (pos x)
inside_of len room x within = record { low = omega (arith, ints); high = omega (arith, ints, within) }

entries_fit : (count len : ℕ) → len < 2 ^ 63 → count * len < 2 ^ 63 → len * product (nonzero_entries (count ∷ [])) < 2 ^ 63
entries_fit zero len small fits = omega (arith, small)
entries_fit (suc count) len small fits = let same : len * (suc count * 1) ≡ suc count * len = omega (arith, mul_comm len (suc count)) in rw same fits

pub field_placed : (r : RecordFormat) (place : Field) (count room : ℕ) (readonly : Bool) → 0 < r.format.size → r.format.size < 2 ^ 63 → place.offset + place.length ≤ r.format.size → 0 < place.length → count * r.format.size ≡ room → room < 2 ^ 63
    → IsPlaced (field_descriptor r place count readonly) place.offset
field_placed r place count room readonly some small inside long whole fits =
    let size = r.format.size in
    let len = place.length in
    let short : len ≤ size = omega (arith, inside) in
    let bytes : count * len < 2 ^ 63 = fields_fit count len size short (rw whole fits) in
    let lies : All (λ (n : ℕ). start_of size place.offset n + len ≤ room) (range_with_len 0 count) = all_below size place.offset len count room inside whole in
    let within : All (λ (n : ℕ). IsInside len room (pos (start_of size place.offset n))) (range_with_len 0 count) = λ k d h. inside_of len room (start_of size place.offset (_)) (lies k d h) in
    record {
      room = room;
      room_fits = fits;
      valid = record {
        some_size = long;
        size_fits = omega (arith, short, small);
        few_dimensions = omega arith;
        strides = All-cons (λ (dim : ℕ × ℤ × ℤ). dim.1 ≢ pos 0) (count, pos size, pos 0) [] (positive_is_nonzero size some) (All-nil (λ (dim : ℕ × ℤ × ℤ). dim.1 ≢ pos 0));
        suboffsets = All-cons (λ (dim : ℕ × ℤ × ℤ). dim.2 ≡ pos 0) (count, pos size, pos 0) [] refl (All-nil (λ (dim : ℕ × ℤ × ℤ). dim.2 ≡ pos 0));
        later_entries = All-nil (λ (dim : ℕ × ℤ × ℤ). 0 < dim.0);
        extent_fits = entries_fit count len (omega (arith, short, small)) bytes;
        len = omega (arith, mul_comm len count);
        inside = rw (places_are place.offset size (range_with_len 0 count)) (All-map (IsInside len room) (λ (n : ℕ). pos (start_of size place.offset n)) (range_with_len 0 count) within);
      };
    }

-- ---- the view is sound

sized_by : (len : ℕ) (g : Format) (r : Result Format Fault) → 0 < len → r ≡ Ok g → g.size ≡ len → is_size_of len r ≡ true
sized_by len g r some is sized = rw (is, sized, lt-ltb 0 len some, eq-eqb len len refl) refl

pub field_view_sound : FormatsReadBack → (e : Exporter) (r : RecordFormat) (k : ℕ) (place : Field) → IsRecordFormat r → slice_get (fields r.format) k ≡ Some place → r.format.size < 2 ^ 63 → place.offset + place.length ≤ r.format.size
    → IsTrue (is_length r.format.order place.code place.length) → 0 < place.length → length e.bytes % r.format.size ≡ 0 → IsSoundLayout e (view_of_field r e place)
field_view_sound reads e r k place is there small inside long some whole =
    let size = r.format.size in
    let count = length e.bytes / size in
    let spelled = field_spelled reads r.text r.format k place is.spelled there long (omega (arith, inside, small)) in
    record {
      formed = record {
        sized = sized_by place.length spelled.format (format_of (field_text r.text place)) some spelled.spelled spelled.sized;
        counted = length-map-range_with_len (start_of size place.offset) 0 count ∙ omega arith;
      };
      inside = All-map (λ (start : ℕ). start + place.length ≤ length e.bytes) (start_of size place.offset) (range_with_len 0 count) (all_below size place.offset place.length count (length e.bytes) inside (whole_quotient (length e.bytes) size whole));
      readonly = λ held. held;
    }

-- ---- the view that is made

abbrev okay : Exporter × LocalReply → Result (Exporter × LocalReply) Fault
okay after = Ok after

pub view_placed : (r : RecordFormat) (place : Field) (bytes : List ℕ) (len size offset : ℕ) (readonly : Bool) (d : Descriptor) → len ≡ length bytes → size ≡ r.format.size → 0 < size → size < 2 ^ 63 → len < 2 ^ 63
    → place.offset + place.length ≤ r.format.size → 0 < place.length → len % size ≡ 0 → d ≡ field_descriptor r place (len / size) readonly → offset ≡ place.offset → IsPlaced d offset
view_placed r place bytes len size offset readonly d len_is size_is some small room inside long whole d_is offset_is =
    let total : len / size * r.format.size ≡ len = rw (← size_is) (whole_quotient len size whole) in
    let placed : IsPlaced (field_descriptor r place (len / size) readonly) place.offset =
    field_placed r place (len / size) len readonly (rw size_is at some) (rw size_is at small) inside long total room in
    rw (d_is, offset_is) placed

layout_made : (r : RecordFormat) (place : Field) (e : Exporter) (len size offset : ℕ) (readonly : Bool) (d : Descriptor) → len ≡ length e.bytes → size ≡ r.format.size → readonly ≡ holds_readonly e.kind
    → d ≡ field_descriptor r place (len / size) readonly → offset ≡ place.offset → layout_at d offset ≡ view_of_field r e place
layout_made r place e len size offset readonly d len_is size_is readonly_is d_is offset_is =
    rw (d_is, offset_is, len_is, size_is, readonly_is) (layout_is r place (length e.bytes / r.format.size) (holds_readonly e.kind))

pub view_sound : FormatsReadBack → (e : Exporter) (r : RecordFormat) (k : ℕ) (place : Field) (len size offset : ℕ) (readonly : Bool) (d : Descriptor) → format_of r.text ≡ Ok r.format → Some place ≡ slice_get (fields r.format) k → len ≡ length e.bytes
    → size ≡ r.format.size → 0 < size → size < 2 ^ 63 → place.offset + place.length ≤ r.format.size → IsTrue (is_length r.format.order place.code place.length) → 0 < place.length → len % size ≡ 0 → readonly ≡ holds_readonly e.kind
    → d ≡ field_descriptor r place (len / size) readonly → offset ≡ place.offset → IsSoundLayout e (layout_at d offset)
view_sound reads e r k place len size offset readonly d spelled there len_is size_is some small inside long filled whole readonly_is d_is offset_is =
    let is : IsRecordFormat r = record { spelled = spelled; some_size = rw size_is at some } in
    let sound : IsSoundLayout e (view_of_field r e place) =
    field_view_sound reads e r k place is (sym there) (rw size_is at small) inside long filled (rw (len_is, size_is) at whole) in
    subst (IsSoundLayout e) (sym (layout_made r place e len size offset readonly d len_is size_is readonly_is d_is offset_is)) sound

abbrev viewed : RecordFormat → Exporter → Field → Bool → Bool → Result (Exporter × LocalReply) Fault
viewed r e place broken empty = unless broken fault.Struct >>= λ _. unless empty fault.Value >>= λ _. Ok (with_view e (view_of_field r e place))

made_by : (r : RecordFormat) (e : Exporter) (place : Field) (found : Option Field) → Some place ≡ found → is_whole r.format e.bytes ≡ true → eqb place.length 0 ≡ false
    → (ok_or found fault.Index >>= λ at. viewed r e at (not (is_whole r.format e.bytes)) (eqb at.length 0)) ≡ Ok (with_view e (view_of_field r e place))
made_by r e place found is whole long = rw (← is, whole, long) refl

pub view_made : (e new : Exporter) (r : RecordFormat) (field k : ℕ) (place : Field) (len size offset : ℕ) (readonly : Bool) (d : Descriptor) → Some place ≡ slice_get (fields r.format) field → len ≡ length e.bytes → size ≡ r.format.size → 0 < place.length → len % size ≡ 0
    → readonly ≡ holds_readonly e.kind → d ≡ field_descriptor r place (len / size) readonly → offset ≡ place.offset → with_view e (layout_at d offset) ≡ (new, reply.View k) → with_field_view r field e ≡ Ok (new, reply.View k)
view_made e new r field k place len size offset readonly d there len_is size_is long whole readonly_is d_is offset_is made =
    let layout : layout_at d offset ≡ view_of_field r e place = layout_made r place e len size offset readonly d len_is size_is readonly_is d_is offset_is in
    let ok : eqb (length e.bytes % r.format.size) 0 ≡ true = eq-eqb (length e.bytes % r.format.size) 0 (rw (len_is, size_is) at whole) in
    let filled : eqb place.length 0 ≡ false = ne_eqb place.length 0 (λ e. omega (arith, long, e)) in
    made_by r e place (slice_get (fields r.format) field) there ok filled
    ∙ ap (λ (after : Exporter × LocalReply). okay after) (ap (with_view e) (sym layout) ∙ made)
