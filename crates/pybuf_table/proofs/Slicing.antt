-- `set` by a slice through a view of a field.
use Rattle.std.proofs.Common.{◌≡◌, ◌≢◌, ℕ, ◌+◌, ◌*◌, ◌<◌, ◌≤◌, ◌/◌, List, [], ◌∷◌, length, drop, Some, Result, Ok, sym, ◌∙◌, subst, inl, inr, ◌⊎◌, arith}
use Rattle.std.specs.Prelude.{All, slice_get, slice_index_or}
use Rattle.std.specs.List.{flat_map, range_with_len}
use Rattle.std.proofs.lemmas.Bool.{cases_order}
use Rattle.std.proofs.lemmas.List.Elements.{All-nil, All-take, All-drop, All-append, All-map}
use Rattle.std.proofs.lemmas.List.FromFn.{length-range_with_len, get_or-range_with_len}
use Rattle.pybuf_lemmas.proofs.Numbers.{item_ends_before_next}
use Rattle.pybuf_value.specs.declared.faults.Fault.{Fault}
use Rattle.pybuf_struct.specs.Formats.{Field, fields}
use Rattle.pybuf_struct.specs.Laws.{Spread, FieldsLieInOrder}
use Rattle.pybuf_desc.specs.Layouts.{Layout}
use Rattle.pybuf_desc.specs.Items.{bytes_at}
use Rattle.pybuf_desc.specs.Slices.{slice_of, block_at, first_entry}
use Rattle.pybuf_index.specs.Parts.{SliceParts, picks_of}
use Rattle.pybuf_state.specs.Exporter.{Exporter}
use Rattle.pybuf_verbs_writes.specs.Laws.{AreOutside}
use Rattle.pybuf_exporter.specs.Assigning.{IsAssignedByValue, StepsAssignByValue}
use Rattle.pybuf_table.specs.Records.{RecordFormat}
use Rattle.pybuf_table.specs.FieldViews.{view_of_field}
use Rattle.pybuf_table.specs.Laws.{SlicesChangeOneField}
use Rattle.pybuf_table.proofs.Staying.{spread_inside}
use Rattle.pybuf_table.proofs.Setting.{other_fields, field_stays}

-- What holds of all starts holds of those that a slice picks.
block_all : (P : ℕ → Type 0) (size : ℕ) (starts : List ℕ) (i : ℕ) → All P starts → All P (block_at size starts i)
block_all P size starts i all = All-take P size (drop (i * size) starts) (All-drop P (i * size) starts all)

picked_all : (P : ℕ → Type 0) (size : ℕ) (starts picks : List ℕ) → All P starts → All P (flat_map (λ i. block_at size starts i) picks)
picked_all P size starts [] all = All-nil P
picked_all P size starts (i ∷ picks) all =
    All-append P (block_at size starts i) (flat_map (λ n. block_at size starts n) picks) (block_all P size starts i all) (picked_all P size starts picks all)

abbrev Outside : ℕ → ℕ → ℕ → ℕ → Type 0
Outside size at count start = (start + size ≤ at) ⊎ (at + count ≤ start)

outside_all : (size at count : ℕ) (starts : List ℕ) → All (Outside size at count) starts → AreOutside size starts at count
outside_all size at count starts all i less = all i 0 less

abbrev start_of : ℕ → ℕ → ℕ → ℕ
start_of size offset number = number * size + offset

numbers_outside : (records size offset len at count : ℕ) → ((number : ℕ) → number < records → Outside len at count (start_of size offset number)) → All (λ (n : ℕ). Outside len at count (start_of size offset n)) (range_with_len 0 records)
numbers_outside records size offset len at count each k d less =
    let within : k < records = rw (length-range_with_len 0 records) at less in
    let is : slice_index_or (range_with_len 0 records) k d ≡ k = get_or-range_with_len 0 records k d within ∙ omega arith in
    subst (λ (n : ℕ). Outside len at count (start_of size offset n)) (sym is) (each k within)

abbrev is_layout : Result Layout Fault → Layout → Type 0
is_layout live layout = live ≡ Ok layout

-- Another field of a record lies outside this field of every record.
apart_from : (fs : List Field) (size field k : ℕ) (place other : Field) (number one : ℕ) → Spread 0 fs size → slice_get fs field ≡ Some place → slice_get fs k ≡ Some other → k ≢ field
    → Outside place.length (number * size + other.offset) other.length (start_of size place.offset one)
apart_from fs size field k place other number one spread there is apart =
    let mine = spread_inside 0 size fs field place spread there in
    let its = spread_inside 0 size fs k other spread is in
    let inside : place.offset + place.length ≤ size = mine.1 in
    let within : other.offset + other.length ≤ size = its.1 in
    elim (cases_order one number) [
      | inl same ↦ rw same (elim (other_fields fs size field k place other (number * size) spread there is apart) [ inl before ↦ inr before | inr behind ↦ inl behind ])
      | inr order ↦ elim order [
        | inl less ↦ let past : one * size + size ≤ number * size = item_ends_before_next one number size less in inl (omega (arith, past, inside))
        | inr more ↦ let past : number * size + size ≤ one * size = item_ends_before_next number one size more in inr (omega (arith, past, within))
      ]
    ]

set_by_value : (r : RecordFormat) (field : ℕ) (place : Field) (e new : Exporter) (layout : Layout) (parts : SliceParts) → layout ≡ view_of_field r e place → Spread 0 (fields r.format) r.format.size → slice_get (fields r.format) field ≡ Some place
    → ((at count : ℕ) → AreOutside layout.itemsize (slice_of layout parts).starts at count → bytes_at new.bytes count at ≡ bytes_at e.bytes count at)
    → (at count : ℕ) → ((number : ℕ) → number < length e.bytes / r.format.size → Outside place.length at count (start_of r.format.size place.offset number)) → bytes_at new.bytes count at ≡ bytes_at e.bytes count at
set_by_value r field place e new layout parts is spread there others at count each =
    let records = length e.bytes / r.format.size in
    let P = Outside place.length at count in
    let viewed = view_of_field r e place in
    let all : All P viewed.starts = All-map P (start_of r.format.size place.offset) (range_with_len 0 records) (numbers_outside records r.format.size place.offset place.length at count each) in
    let picked : All P (slice_of viewed parts).starts = picked_all P (length viewed.starts / first_entry viewed.shape) viewed.starts (picks_of (first_entry viewed.shape) parts) all in
    others at count (subst (λ (l : Layout). AreOutside l.itemsize (slice_of l parts).starts at count) (sym is) (outside_all place.length at count (slice_of viewed parts).starts picked))

pub slices_set : FieldsLieInOrder → StepsAssignByValue → SlicesChangeOneField
slices_set order assigns r field place e new k slice v loans is there sound fit live done =
    let by : IsAssignedByValue e new k slice v loans = assigns e new k slice v loans sound fit done in
    let spread : Spread 0 (fields r.format) r.format.size = (order r.text r.format is.spelled).0 in
    let both : is_layout (Ok by.layout) (view_of_field r e place) = sym by.live ∙ live in
    let same : by.layout ≡ view_of_field r e place = cc in
    let stay : (at count : ℕ) → ((number : ℕ) → number < length e.bytes / r.format.size → Outside place.length at count (start_of r.format.size place.offset number)) → bytes_at new.bytes count at ≡ bytes_at e.bytes count at =
    set_by_value r field place e new by.layout by.parts same spread there by.others in
    record {
      as_long = by.as_long;
      others = stay;
      fields = λ number k other at apart.
          field_stays r e.bytes new.bytes number other (spread_inside 0 r.format.size (fields r.format) k other spread at).1
          (stay (number * r.format.size + other.offset) other.length (λ one less. apart_from (fields r.format) r.format.size field k place other number one spread there at apart));
      kind = by.kind;
      views = by.views;
      iterators = by.iterators;
    }
