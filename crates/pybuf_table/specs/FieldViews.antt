-- Views of one field of each record.
use Rattle.std.specs.Prelude.{◌≡◌, ℕ, ◌+◌, ◌*◌, ◌/◌, ◌==◌, pos, Bool, not, [], ◌∷◌, length, map, Result, Ok, Err}
use Rattle.std.specs.List.{range_with_len}
use Rattle.pybuf_value.specs.declared.faults.Fault.{Fault}
use Rattle.pybuf_value.specs.declared.faults.Fault.TheVariants as fault
use Rattle.pybuf_value.specs.declared.faults.Outcome.{Outcome}
use Rattle.pybuf_value.specs.declared.faults.Outcome.TheVariants as outcome
use Rattle.pybuf_value.specs.Refusing.{◌>>=◌, unless}
use Rattle.pybuf_struct.specs.Formats.{Field}
use Rattle.pybuf_desc.specs.Layouts.{Layout}
use Rattle.pybuf_desc.specs.Descriptor.{Descriptor}
use Rattle.pybuf_command.specs.Kinds.{holds_readonly}
use Rattle.pybuf_command.specs.declared.commands.LocalReply.{LocalReply}
use Rattle.pybuf_command.specs.declared.commands.LocalReply.TheVariants as reply
use Rattle.pybuf_state.specs.Exporter.{Exporter, with_view}
use Rattle.pybuf_table.specs.Records.{RecordFormat, is_whole}
use Rattle.pybuf_table.specs.Chosen.{field_in}
use Rattle.pybuf_table.specs.FieldTexts.{field_text}

-- the view of a field of `count` records: item k is the field of record k
abbrev pub field_layout : RecordFormat → Field → ℕ → Bool → Layout
field_layout r place count readonly =
    record {
      format = field_text r.text place;
      itemsize = place.length;
      shape = count ∷ [];
      starts = map (λ number. number * r.format.size + place.offset) (range_with_len 0 count);
      strides = pos r.format.size ∷ [];
      readonly = readonly;
    }

-- what the code keeps of this view
abbrev pub field_descriptor : RecordFormat → Field → ℕ → Bool → Descriptor
field_descriptor r place count readonly =
    record {
      len = count * place.length;
      readonly = readonly;
      itemsize = place.length;
      format = field_text r.text place;
      dims = (count, pos r.format.size, pos 0) ∷ [];
    }

-- the view of a field of each record of an exporter's bytes
abbrev pub view_of_field : RecordFormat → Exporter → Field → Layout
view_of_field r e place = field_layout r place (length e.bytes / r.format.size) (holds_readonly e.kind)

-- The exporter with one more view, of a field of each record of its bytes. The view can be written if the
-- exporter can. A field that isn't there is refused first, then bytes that aren't whole records, and then a
-- field without a byte.
abbrev pub with_field_view : RecordFormat → ℕ → Exporter → Result (Exporter × LocalReply) Fault
with_field_view r field e = do
  place ← field_in r.format field
  _ ← unless (not (is_whole r.format e.bytes)) fault.Struct
  _ ← unless (place.length == 0) fault.Value
  Ok (with_view e (view_of_field r e place))

-- what the call answers, and the exporter afterwards
abbrev pub IsFieldView : RecordFormat → ℕ → Exporter → Exporter → Outcome ℕ → Type 0
IsFieldView r field old new (outcome.Done k) = with_field_view r field old ≡ Ok (new, reply.View k)
IsFieldView r field old new (outcome.Refused f) = (with_field_view r field old ≡ Err f) × (new ≡ old)
