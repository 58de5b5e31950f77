-- `set` of an item through a view of a field.
use Rattle.std.proofs.Common.{◌≡◌, ◌≢◌, ℕ, ◌+◌, ◌*◌, ◌<◌, ◌≤◌, ◌/◌, Bool, true, false, true≢false, List, [], ◌∷◌, length, take, drop, Some, Result, Ok, Err, refl, sym, ap, ◌∙◌, subst, inl, inr, ◌⊎◌, eqb, arith}
use Rattle.std.specs.Prelude.{slice_get, slice_index, nat_lt}
use Rattle.std.proofs.lemmas.Bool.{cases_lt, eqb-true}
use Rattle.std.proofs.lemmas.List.FromFn.{length-map-range_with_len, get_or-map-range_with_len}
use Rattle.pybuf_lemmas.proofs.Booleans.{both_of}
use Rattle.pybuf_lemmas.proofs.Numbers.{item_ends_before_next}
use Rattle.pybuf_exporter.specs.Facts.{okay, answered_ok, set_by_item}
use Rattle.pybuf_verbs_writes.specs.Facts.{bytes_before_piece}
use Rattle.pybuf_value.specs.declared.faults.Fault.{Fault}
use Rattle.pybuf_value.specs.declared.faults.Fault.TheVariants as fault
use Rattle.pybuf_value.specs.declared.values.Scalar.{Scalar}
use Rattle.pybuf_value.specs.declared.values.Value.{Value}
use Rattle.pybuf_value.specs.declared.snaps.Snap.{Snap}
use Rattle.pybuf_value.specs.Refusing.{◌>>=◌, unless}
use Rattle.pybuf_struct.specs.Formats.{Format, Field, format_of, fields}
use Rattle.pybuf_struct.specs.Values.{value_in, value_of}
use Rattle.pybuf_struct.specs.Packing.{packed_bytes}
use Rattle.pybuf_struct.specs.Laws.{Spread, FieldsLieInOrder, PackingFillsTheFormat}
use Rattle.pybuf_desc.specs.Layouts.{Layout, product}
use Rattle.pybuf_desc.specs.Items.{bytes_at}
use Rattle.pybuf_command.specs.Kinds.{holds_readonly}
use Rattle.pybuf_command.specs.declared.kinds.Subject.TheVariants as subject
use Rattle.pybuf_command.specs.declared.commands.Verb.TheVariants as verb
use Rattle.pybuf_command.specs.declared.commands.LocalReply.{LocalReply}
use Rattle.pybuf_command.specs.declared.commands.LocalReply.TheVariants as reply
use Rattle.pybuf_command.specs.Handles.{handles_of, handles_read}
use Rattle.pybuf_memoryview.specs.Items.{is_none, scalar_in, kind_fault, piece_by}
use Rattle.pybuf_memoryview.specs.Keys.{item_of_key}
use Rattle.pybuf_memoryview.specs.Laws.{KeysNameItems}
use Rattle.pybuf_memoryview.specs.Sized.{is_sized, is_size_of}
use Rattle.pybuf_state.specs.Exporter.{Exporter, live_layout}
use Rattle.pybuf_state.specs.Loans.{Lent, are_named, lents_by, names_of, snaps_of}
use Rattle.pybuf_state.specs.Laws.{IsSoundLayout, LiveLayoutsAreSound}
use Rattle.pybuf_verbs_writes.specs.Laid.{bytes_with}
use Rattle.pybuf_verbs_writes.specs.Set.{item_set}
use Rattle.pybuf_exporter.specs.Step.{set_through_view}
use Rattle.pybuf_table.specs.Records.{RecordFormat}
use Rattle.pybuf_table.specs.FieldViews.{field_layout, view_of_field}
use Rattle.pybuf_table.specs.Laws.{record_at, IsFieldSet, SetsChangeOneField}
use Rattle.pybuf_table.proofs.Staying.{bytes_stay, part_of_part, after_piece, as_long, spread_inside, spread_apart}

-- ---- the row

-- what holds of the item that was set
pub record IsItemSet (e new : Exporter) (layout : Layout) (key v : Value) (lents : List Lent) : Type 0 where
  pub item : ℕ
  pub named : item_of_key layout.shape key ≡ Ok item
  pub done : item_set e layout item v lents ≡ okay (new, reply.Ok)

abbrev target_by : Layout → Bool → Bool → Result ℕ Fault → Result (Layout × ℕ) Fault
target_by layout readonly none item = unless readonly fault.Kind >>= λ _. unless none fault.Kind >>= λ _. item >>= λ i. Ok (layout, i)

checked : (e new : Exporter) (layout : Layout) (key v : Value) (lents : List Lent) (readonly none : Bool) (item : Result ℕ Fault) → item_of_key layout.shape key ≡ item
    → (target_by layout readonly none item >>= λ target. item_set e target.0 target.1 v lents) ≡ okay (new, reply.Ok) → IsItemSet e new layout key v lents
checked e new layout key v lents true none item named is = absurd (cc)
checked e new layout key v lents false true item named is = absurd (cc)
checked e new layout key v lents false false (Err f) named is = absurd (cc)
checked e new layout key v lents false false (Ok i) named is = record { item = i; named = named; done = is }

set_by : (e new : Exporter) (layout : Layout) (key v : Value) (lents : List Lent) (live : Result Layout Fault) → live ≡ Ok layout
    → (live >>= λ l. target_by l l.readonly (is_none v) (item_of_key l.shape key)) >>= (λ target. item_set e target.0 target.1 v lents) ≡ okay (new, reply.Ok) → IsItemSet e new layout key v lents
set_by e new layout key v lents (Err f) live is = absurd (cc)
set_by e new layout key v lents (Ok l) live is =
    let same : l ≡ layout = cc in
    subst (λ (m : Layout). IsItemSet e new m key v lents) same (checked e new l key v lents l.readonly (is_none v) (item_of_key l.shape key) refl is)

-- ---- the piece that was written

pub record IsPieceSet (e new : Exporter) (layout : Layout) (item : ℕ) : Type 0 where
  pub piece : List ℕ
  pub long : length piece ≡ layout.itemsize
  pub done : new ≡ record e { bytes = bytes_with e.bytes (slice_index layout.starts item) piece }

packed_as : PackingFillsTheFormat → (text : List ℕ) (f : Format) (pairs : List (ℕ × Snap)) (args : List Scalar) (piece : List ℕ) (bytes : Result (List ℕ) Fault) → format_of text ≡ Ok f → packed_bytes f pairs args ≡ bytes
    → kind_fault bytes ≡ Ok piece → length piece ≡ f.size
packed_as fills text f pairs args piece (Err g) read is done = absurd (cc)
packed_as fills text f pairs args piece (Ok bytes) read is done =
    let same : bytes ≡ piece = cc in
    fills text f pairs args piece read (is ∙ ap (λ (b : List ℕ). Ok b) same)

packed : PackingFillsTheFormat → (text : List ℕ) (pairs : List (ℕ × Snap)) (args : List Scalar) (size : ℕ) (piece : List ℕ) (format : Result Format Fault) → format_of text ≡ format → is_size_of size format ≡ true
    → (kind_fault format >>= λ f. kind_fault (packed_bytes f pairs args)) ≡ Ok piece → length piece ≡ size
packed fills text pairs args size piece (Err f) read sized is = absurd (true≢false (sym sized))
packed fills text pairs args size piece (Ok f) read sized is =
    packed_as fills text f pairs args piece (packed_bytes f pairs args) read refl is ∙ eqb-true f.size size (both_of (nat_lt 0 size) (eqb f.size size) sized).1

abbrev with_piece : Exporter → ℕ → List ℕ → Exporter
with_piece e start piece = record e { bytes = bytes_with e.bytes start piece }

piece_set : (e new : Exporter) (layout : Layout) (item : ℕ) (written : Result (List ℕ) Fault) → ((piece : List ℕ) → written ≡ Ok piece → length piece ≡ layout.itemsize)
    → (written >>= λ piece. okay (with_piece e (slice_index layout.starts item) piece, reply.Ok)) ≡ okay (new, reply.Ok) → IsPieceSet e new layout item
piece_set e new layout item (Err f) long is = absurd (cc)
piece_set e new layout item (Ok piece) long is =
    let pair : (with_piece e (slice_index layout.starts item) piece, reply.Ok) ≡ (new, reply.Ok) = cc in
    let same : with_piece e (slice_index layout.starts item) piece ≡ new = ap (λ (after : Exporter × LocalReply). after.0) pair in
    record { piece = piece; long = long piece refl; done = sym same }

set_piece : PackingFillsTheFormat → (e new : Exporter) (layout : Layout) (item : ℕ) (v : Value) (lents : List Lent) → is_sized layout.format layout.itemsize ≡ true → item_set e layout item v lents ≡ okay (new, reply.Ok) → IsPieceSet e new layout item
set_piece fills e new layout item v lents sized is =
    piece_set e new layout item (piece_by layout.format (snaps_of lents) v)
    (λ piece written. packed fills layout.format (snaps_of lents) (scalar_in v ∷ []) layout.itemsize piece (format_of layout.format) refl sized written) is

-- ---- where the piece was written

abbrev start_of : ℕ → ℕ → ℕ → ℕ
start_of size offset number = number * size + offset

start_is : (r : RecordFormat) (place : Field) (count number : ℕ) (readonly : Bool) → number < count → slice_index (field_layout r place count readonly).starts number ≡ start_of r.format.size place.offset number
start_is r place count number readonly less = get_or-map-range_with_len (start_of r.format.size place.offset) 0 count number number 0 less (omega arith)

-- The record lies before another one, or after it.
other_records : (number other size offset len : ℕ) → offset + len ≤ size → other ≢ number → (other * size + size ≤ start_of size offset number) ⊎ (start_of size offset number + len ≤ other * size)
other_records number other size offset len inside apart =
    elim (cases_lt other number) [
      | inl less ↦ let within : other * size + size ≤ number * size = item_ends_before_next other number size less in inl (omega (arith, within))
      | inr more ↦ let within : number * size + size ≤ other * size = item_ends_before_next number other size (omega (arith, more, apart)) in inr (omega (arith, within, inside))
    ]

-- another field of the same record
pub other_fields : (fs : List Field) (size field k : ℕ) (place other : Field) (begin : ℕ) → Spread 0 fs size → slice_get fs field ≡ Some place → slice_get fs k ≡ Some other → k ≢ field
    → (begin + other.offset + other.length ≤ begin + place.offset) ⊎ (begin + place.offset + place.length ≤ begin + other.offset)
other_fields fs size field k place other begin spread there is apart =
    elim (cases_lt k field) [
      | inl less ↦ let before : other.offset + other.length ≤ place.offset = spread_apart 0 size fs k field other place spread less is there in inl (omega (arith, before))
      | inr more ↦ let behind : place.offset + place.length ≤ other.offset = spread_apart 0 size fs field k place other spread (omega (arith, more, apart)) there is in inr (omega (arith, behind))
    ]

pub field_stays : (r : RecordFormat) (old new : List ℕ) (number : ℕ) (other : Field) → other.offset + other.length ≤ r.format.size → bytes_at new other.length (number * r.format.size + other.offset) ≡ bytes_at old other.length (number * r.format.size + other.offset)
    → value_in r.format.order (record_at r.format new number) other ≡ value_in r.format.order (record_at r.format old number) other
field_stays r old new number other inside same =
    let begin = number * r.format.size in
    let size = r.format.size in
    ap (value_of r.format.order other.code) (part_of_part new begin size other.offset other.length inside ∙ same ∙ sym (part_of_part old begin size other.offset other.length inside))

field_set : (r : RecordFormat) (field : ℕ) (place : Field) (e new : Exporter) (number : ℕ) (piece : List ℕ) → Spread 0 (fields r.format) r.format.size → slice_get (fields r.format) field ≡ Some place → number < length e.bytes / r.format.size
    → length piece ≡ place.length → start_of r.format.size place.offset number + place.length ≤ length e.bytes → new ≡ with_piece e (start_of r.format.size place.offset number) piece → IsFieldSet r field place e new number
field_set r field place e new number piece spread there less long fits done =
    let size = r.format.size in
    let start = start_of size place.offset number in
    let bytes : new.bytes ≡ bytes_with e.bytes start piece = ap (λ (x : Exporter). x.bytes) done in
    let within : start ≤ length e.bytes = omega (arith, fits) in
    let ends : start + length piece ≡ start + place.length = ap (λ (n : ℕ). start + n) long in
    let before : take start new.bytes ≡ take start e.bytes = ap (take start) bytes ∙ bytes_before_piece e.bytes piece start within in
    let behind : drop (start + place.length) new.bytes ≡ drop (start + place.length) e.bytes = rw (← ends) (ap (drop (start + length piece)) bytes ∙ after_piece e.bytes piece start within) in
    let inside = spread_inside 0 size (fields r.format) field place spread there in
    let stay : (at count : ℕ) → (at + count ≤ start) ⊎ (start + place.length ≤ at) → bytes_at new.bytes count at ≡ bytes_at e.bytes count at = λ at count outside. bytes_stay new.bytes e.bytes start (start + place.length) at count before behind outside in
    record {
      there = less;
      as_long = ap length bytes ∙ as_long e.bytes piece start (rw long fits);
      others = stay;
      records = λ other apart. stay (other * size) size (other_records number other size place.offset place.length inside.1 apart);
      fields = λ k other is apart.
          field_stays r e.bytes new.bytes number other (spread_inside 0 size (fields r.format) k other spread is).1
          (stay (number * size + other.offset) other.length (other_fields (fields r.format) size field k place other (number * size) spread there is apart));
      kind = ap (λ (x : Exporter). x.kind) done;
      views = ap (λ (x : Exporter). x.views) done;
      iterators = ap (λ (x : Exporter). x.iterators) done;
    }

-- ---- the whole law

pub one_field_set : FieldsLieInOrder → PackingFillsTheFormat → KeysNameItems → LiveLayoutsAreSound → SetsChangeOneField
one_field_set order fills keys lives r field place e new k key v loans is there sound live not_slice done =
    let layout = view_of_field r e place in
    let count = length e.bytes / r.format.size in
    let lents = lents_by e (names_of loans) (handles_read (subject.View k) (verb.Set key v)) in
    let row : set_through_view e k key v lents ≡ okay (new, reply.Ok) = answered_ok e new (are_named e (names_of loans) (handles_of (verb.Set key v))) (set_through_view e k key v lents) done in
    let set : IsItemSet e new layout key v lents = set_by e new layout key v lents (live_layout e k) live (sym (set_by_item e k key v lents not_slice) ∙ row) in
    let safe : IsSoundLayout e layout = lives e k layout sound live in
    let number = set.item in
    let less : number < count = let below : number < product (count ∷ []) = keys (count ∷ []) key number set.named in omega (arith, below) in
    let written : IsPieceSet e new layout number = set_piece fills e new layout number v lents safe.formed.sized set.done in
    let start : slice_index layout.starts number ≡ start_of r.format.size place.offset number = start_is r place count number (holds_readonly e.kind) less in
    let many : length layout.starts ≡ count = length-map-range_with_len (start_of r.format.size place.offset) 0 count in
    let fits : slice_index layout.starts number + place.length ≤ length e.bytes = safe.inside number 0 (rw many less) in (
      number,
      set.named,
      field_set r field place e new number written.piece (order r.text r.format is.spelled).0 there less written.long (rw start at fits)
          (written.done ∙ ap (λ (place : ℕ). with_piece e place written.piece) start),
    )
