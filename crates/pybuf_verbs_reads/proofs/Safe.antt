-- Each effect that reads keeps a sound exporter.
use Rattle.std.proofs.Common.{◌≡◌, ℕ, length, Bool, true, false, refl}
use Rattle.std.specs.Prelude.{Option, Some, None, Result, Ok, if◌then◌else◌}
use Rattle.pybuf_state.specs.Facts.{safe_bind, reading_is_carried_out}
use Rattle.pybuf_value.specs.Facts.{done_holds}
use Rattle.pybuf_value.specs.declared.faults.Fault.{Fault}
use Rattle.pybuf_value.specs.declared.faults.Fault.TheVariants as fault
use Rattle.pybuf_value.specs.declared.values.Value.{Value}
use Rattle.pybuf_value.specs.declared.values.Value.TheVariants as value
use Rattle.pybuf_value.specs.Refusing.{unless, IfDone}
use Rattle.pybuf_index.specs.Places.{entry_in}
use Rattle.pybuf_desc.specs.Layouts.{Layout}
use Rattle.pybuf_command.specs.declared.commands.LocalReply.{LocalReply}
use Rattle.pybuf_command.specs.declared.commands.LocalReply.TheVariants as reply
use Rattle.pybuf_state.specs.Exporter.{Exporter, live_layout}
use Rattle.pybuf_state.specs.Keeps.{is_answer, IsSafe}
use Rattle.pybuf_index.specs.Parts.{saturated_parts_of}
use Rattle.pybuf_command.specs.declared.kinds.ExporterKind.{ExporterKind}
use Rattle.pybuf_command.specs.declared.kinds.ExporterKind.TheVariants as kind
use Rattle.pybuf_command.specs.declared.commands.PropertyName.{PropertyName}
use Rattle.pybuf_command.specs.declared.commands.PropertyName.TheVariants as property
use Rattle.pybuf_memoryview.specs.Items.{index_in, has_dimensions}
use Rattle.pybuf_memoryview.specs.Keys.{item_of_key, names_itself}
use Rattle.pybuf_state.specs.Laws.{ReadingKeeps}
use Rattle.pybuf_verbs_reads.specs.Get.{byte_of_own, part_of_own, get_in_kind, item_of_layout, item_of_view}
use Rattle.pybuf_verbs_reads.specs.Property.{is_exports, property_of_own, property_of_layout, property_of_view}
use Rattle.pybuf_verbs_reads.specs.ToBytes.{bytes_of_own, is_column_order}
use Rattle.pybuf_verbs_reads.specs.Laws.{GetIsSafe, BytesIsSafe, LenIsSafe, PropertyIsSafe, ToListIsSafe}

-- ---- get

byte_safe : ReadingKeeps → (e : Exporter) (key : Value) → IsSafe e (byte_of_own e key)
byte_safe reading e key =
    safe_bind e (index_in key) _ (λ index _.
    safe_bind e (entry_in (length e.bytes) index) _ (λ place _. reading_is_carried_out reading e _ refl))

part_safe : ReadingKeeps → (e : Exporter) (key : Value) → IsSafe e (part_of_own e key)
part_safe reading e (value.Slice slice) = safe_bind e (saturated_parts_of slice) _ (λ parts _. reading_is_carried_out reading e _ refl)
part_safe reading e (value.One s) = byte_safe reading e (value.One s)
part_safe reading e (value.Tuple parts) = byte_safe reading e (value.Tuple parts)
part_safe reading e (value.List parts) = byte_safe reading e (value.List parts)
part_safe reading e (value.Slices slices) = byte_safe reading e (value.Slices slices)

in_kind : (e : Exporter) (k : ExporterKind) (r : Result (Exporter × LocalReply) Fault) → IsSafe e r → IsSafe e (get_in_kind k r)
in_kind e kind.ByteArray r safe = safe
in_kind e kind.Bytes r safe = safe
in_kind e (kind.Vector readonly) r safe = tt

-- The answer is an item, or the view itself.
either_safe : ReadingKeeps → (e : Exporter) (layout : Layout) (key : Value) (b : Bool) → IsSafe e (if b then Ok (e, reply.Itself) else item_of_layout e layout key)
either_safe reading e layout key true = reading_is_carried_out reading e reply.Itself refl
either_safe reading e layout key false = safe_bind e (item_of_key layout.shape key) _ (λ item _. reading_is_carried_out reading e _ refl)

item_safe : ReadingKeeps → (e : Exporter) (k : ℕ) (key : Value) → IsSafe e (item_of_view e k key)
item_safe reading e k key = safe_bind e (live_layout e k) _ (λ layout _. either_safe reading e layout key (names_itself layout.shape key))

pub get_safe : ReadingKeeps → GetIsSafe
get_safe reading = ((λ e key. in_kind e e.kind (part_of_own e key) (part_safe reading e key)), item_safe reading)

-- ---- bytes, len

pub bytes_safe : ReadingKeeps → BytesIsSafe
bytes_safe reading = (own, λ e k order. safe_bind e (live_layout e k) _ (λ layout _. safe_bind e (is_column_order layout order) _ (λ columns _. reading_is_carried_out reading e _ refl)))
  where
    own : (e : Exporter) (order : Option Value) → IsSafe e (bytes_of_own e order)
    own e None = reading_is_carried_out reading e _ refl
    own e (Some order) = tt

pub len_safe : ReadingKeeps → LenIsSafe
len_safe reading = (
  (λ e. reading_is_carried_out reading e _ refl),
  (λ e k. safe_bind e (live_layout e k) _ (λ layout _. safe_bind e (has_dimensions layout) _ (λ _ _. reading_is_carried_out reading e _ refl))),
)

-- ---- prop

own_safe : ReadingKeeps → (e : Exporter) (name : PropertyName) → IsSafe e (property_of_own e name)
own_safe reading e property.Exports = reading_is_carried_out reading e _ refl
own_safe reading e property.Obj = tt
own_safe reading e property.Nbytes = tt
own_safe reading e property.Readonly = tt
own_safe reading e property.Itemsize = tt
own_safe reading e property.Ndim = tt
own_safe reading e property.Shape = tt
own_safe reading e property.Strides = tt
own_safe reading e property.Suboffsets = tt
own_safe reading e property.Format = tt
own_safe reading e property.Contiguous = tt
own_safe reading e property.CContiguous = tt
own_safe reading e property.FContiguous = tt

-- What a view shows is no refusal.
shows_answer : (e : Exporter) (layout : Layout) (name : PropertyName) → IfDone (λ (r : LocalReply). is_answer e r ≡ true) (property_of_layout layout name)
shows_answer e layout property.Exports = tt
shows_answer e layout property.Obj = refl
shows_answer e layout property.Nbytes = refl
shows_answer e layout property.Readonly = refl
shows_answer e layout property.Itemsize = refl
shows_answer e layout property.Ndim = refl
shows_answer e layout property.Shape = refl
shows_answer e layout property.Strides = refl
shows_answer e layout property.Suboffsets = refl
shows_answer e layout property.Format = refl
shows_answer e layout property.Contiguous = refl
shows_answer e layout property.CContiguous = refl
shows_answer e layout property.FContiguous = refl

view_safe : ReadingKeeps → (e : Exporter) (k : ℕ) (name : PropertyName) → IsSafe e (property_of_view e k name)
view_safe reading e k name =
    safe_bind e (unless (is_exports name) fault.UnknownName) _ (λ _ _.
    safe_bind e (live_layout e k) _ (λ layout _.
    safe_bind e (property_of_layout layout name) _ (λ answer found.
    reading_is_carried_out reading e answer (done_holds (λ (r : LocalReply). is_answer e r ≡ true) (property_of_layout layout name) answer (shows_answer e layout name) found))))

pub property_safe : ReadingKeeps → PropertyIsSafe
property_safe reading = (own_safe reading, view_safe reading)

-- ---- tolist

pub tolist_safe : ReadingKeeps → ToListIsSafe
tolist_safe reading e k = safe_bind e (live_layout e k) _ (λ layout _. reading_is_carried_out reading e _ refl)
