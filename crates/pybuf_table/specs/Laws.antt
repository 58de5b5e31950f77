-- Laws of records, and of what is written through a view of one of their fields.
use Rattle.std.specs.Prelude.{◌≡◌, ◌≢◌, ◌⊎◌, ◌↔◌, ℕ, ◌+◌, ◌*◌, ◌/◌, ◌<◌, ◌≤◌, true, false, List, [], ◌∷◌, length, slice_get, Some, Ok, IsOk}
use Rattle.pybuf_value.specs.declared.values.Scalar.{Scalar}
use Rattle.pybuf_value.specs.declared.values.Value.{Value}
use Rattle.pybuf_value.specs.declared.values.Value.TheVariants as value
use Rattle.pybuf_value.specs.declared.values.PySlice.{PySlice}
use Rattle.pybuf_value.specs.Order.{order_of_scalars}
use Rattle.pybuf_struct.specs.declared.table.Endianness.{Endianness}
use Rattle.pybuf_struct.specs.declared.table.FormatType.{FormatType}
use Rattle.pybuf_struct.specs.Formats.{Format, Field, fields}
use Rattle.pybuf_struct.specs.Values.{values, value_in, value_of}
use Rattle.pybuf_desc.specs.Items.{bytes_at}
use Rattle.pybuf_command.specs.declared.kinds.Subject.TheVariants as subject
use Rattle.pybuf_command.specs.declared.commands.Verb.TheVariants as verb
use Rattle.pybuf_command.specs.declared.commands.LocalReply.TheVariants as reply
use Rattle.pybuf_command.specs.declared.loans.Loan.{Loan}
use Rattle.pybuf_memoryview.specs.Items.{is_slice}
use Rattle.pybuf_memoryview.specs.Keys.{item_of_key}
use Rattle.pybuf_state.specs.Exporter.{Exporter, live_layout}
use Rattle.pybuf_state.specs.Sound.{IsSoundExporter}
use Rattle.pybuf_state.specs.Fits.{LoansFit}
use Rattle.pybuf_exporter.specs.Step.{estep}
use Rattle.pybuf_table.specs.Records.{RecordFormat, IsRecordFormat, rows}
use Rattle.pybuf_table.specs.Chosen.{has_value, has_order}
use Rattle.pybuf_table.specs.FieldViews.{view_of_field}

-- ---- records

-- the bytes of the record that has this number
abbrev pub record_at : Format → List ℕ → ℕ → List ℕ
record_at f bytes number = bytes_at bytes f.size (number * f.size)

-- There are as many whole records as the bytes have room for. The values of each record are those of its bytes,
-- which begin at its number times the size.
pub record AreRecords (f : Format) (bytes : List ℕ) : Type 0 where
  pub count : length (rows f bytes) ≡ length bytes / f.size
  pub each : (number : ℕ) → number < length bytes / f.size → slice_get (rows f bytes) number ≡ Some (values f (record_at f bytes number))

abbrev pub RowsAreRecords : Type 0
RowsAreRecords = (f : Format) (bytes : List ℕ) → 0 < f.size → AreRecords f bytes

-- A value has an order with each value of a field exactly if it has one with the values of the field's code. So
-- whether an order is refused doesn't depend on the records.
abbrev pub CodesDecideOrders : Type 0
CodesDecideOrders = (o : Endianness) (c : FormatType) (bytes : List ℕ) (value : Scalar) → has_value c ≡ true → (has_order c value ≡ true) ↔ (IsOk (order_of_scalars (value_of o c bytes) value))

-- ---- `set` through a view of a field

-- One field of one record was set. The bytes of every other record stay, and so do the values of every other
-- field of this record. Every byte before and after the field stays, and so every other field, pad byte and gap
-- does. The length, the kind, the views and the iterators stay too.
pub record IsFieldSet (r : RecordFormat) (field : ℕ) (place : Field) (e new : Exporter) (number : ℕ) : Type 0 where
  pub there : number < length e.bytes / r.format.size
  pub as_long : length new.bytes ≡ length e.bytes
  pub others : (at count : ℕ) → (at + count ≤ number * r.format.size + place.offset) ⊎ (number * r.format.size + place.offset + place.length ≤ at)
      → bytes_at new.bytes count at ≡ bytes_at e.bytes count at
  pub records : (other : ℕ) → other ≢ number → record_at r.format new.bytes other ≡ record_at r.format e.bytes other
  pub fields : (k : ℕ) (other : Field) → slice_get (fields r.format) k ≡ Some other → k ≢ field
      → value_in r.format.order (record_at r.format new.bytes number) other ≡ value_in r.format.order (record_at r.format e.bytes number) other
  pub kind : new.kind ≡ e.kind
  pub views : new.views ≡ e.views
  pub iterators : new.iterators ≡ e.iterators

-- This holds after every `set` of an item through a view of a field of whole records. The record is the one
-- whose number the key names.
abbrev pub SetsChangeOneField : Type 0
SetsChangeOneField =
    (r : RecordFormat) (field : ℕ) (place : Field) (e new : Exporter) (k : ℕ) (key v : Value) (loans : List (ℕ × Loan))
    → IsRecordFormat r → slice_get (fields r.format) field ≡ Some place → IsSoundExporter e → live_layout e k ≡ Ok (view_of_field r e place) → is_slice key ≡ false
    → estep e (subject.View k) (verb.Set key v) loans ≡ (new, reply.Ok)
    → (number : ℕ) × (item_of_key (length e.bytes / r.format.size ∷ []) key ≡ Ok number) × IsFieldSet r field place e new number

-- This field was set in some of the records, and all else stays.
pub record AreFieldsSet (r : RecordFormat) (field : ℕ) (place : Field) (e new : Exporter) : Type 0 where
  pub as_long : length new.bytes ≡ length e.bytes
  pub others : (at count : ℕ) → ((number : ℕ) → number < length e.bytes / r.format.size → (number * r.format.size + place.offset + place.length ≤ at) ⊎ (at + count ≤ number * r.format.size + place.offset))
      → bytes_at new.bytes count at ≡ bytes_at e.bytes count at
  pub fields : (number k : ℕ) (other : Field) → slice_get (fields r.format) k ≡ Some other → k ≢ field
      → value_in r.format.order (record_at r.format new.bytes number) other ≡ value_in r.format.order (record_at r.format e.bytes number) other
  pub kind : new.kind ≡ e.kind
  pub views : new.views ≡ e.views
  pub iterators : new.iterators ≡ e.iterators

-- This holds after every `set` by a slice through such a view.
abbrev pub SlicesChangeOneField : Type 0
SlicesChangeOneField =
    (r : RecordFormat) (field : ℕ) (place : Field) (e new : Exporter) (k : ℕ) (slice : PySlice) (v : Value) (loans : List (ℕ × Loan))
    → IsRecordFormat r → slice_get (fields r.format) field ≡ Some place → IsSoundExporter e → LoansFit loans → live_layout e k ≡ Ok (view_of_field r e place)
    → estep e (subject.View k) (verb.Set (value.Slice slice) v) loans ≡ (new, reply.Ok) → AreFieldsSet r field place e new
