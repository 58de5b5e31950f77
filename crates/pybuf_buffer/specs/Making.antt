-- Which descriptors make a buffer of an exporter, and why others are refused.
use Rattle.std.specs.Prelude.{◌≡◌, ℕ, ◌==◌, List, length, Bool, true, not, ◌&&◌, ◌⊎◌, Option, Result, Ok, Err, IfOk, MatchOption}
use Rattle.pybuf_value.specs.declared.faults.Fault.{Fault}
use Rattle.pybuf_value.specs.declared.faults.Fault.TheVariants as fault
use Rattle.pybuf_value.specs.declared.faults.Outcome.{Outcome}
use Rattle.pybuf_value.specs.declared.faults.Outcome.TheVariants as outcome
use Rattle.pybuf_value.specs.Refusing.{◌>>=◌, unless}
use Rattle.pybuf_struct.specs.Formats.{format_of}
use Rattle.pybuf_desc.specs.Descriptor.{Descriptor}
use Rattle.pybuf_desc.specs.Items.{content_of_layout}
use Rattle.pybuf_desc.specs.Layouts.{Layout}
use Rattle.pybuf_desc.specs.Places.{layout_at}
use Rattle.pybuf_desc.specs.Valid.{IsValid}
use Rattle.pybuf_command.specs.Kinds.{holds_readonly}
use Rattle.pybuf_command.specs.declared.commands.LocalReply.TheVariants as reply
use Rattle.pybuf_state.specs.Exporter.{Exporter, with_view}
use Rattle.pybuf_state.specs.Live.{layout_of}
use Rattle.pybuf_exporter.specs.Stored.{StoredExporter}

-- The checks of a format. The text must spell a format whose size is the item size, and a buffer over bytes
-- that can only be read must be read-only.
abbrev pub checked_format : Exporter → Descriptor → Result Bool Fault
checked_format e d = do
  format ← format_of d.format
  _ ← unless (not (format.size == d.itemsize)) fault.Kind
  unless (holds_readonly e.kind && not d.readonly) fault.Kind

-- The descriptor with its start is valid for the exporter's bytes, and its format is right. The exporter then
-- has one more view, which the descriptor gives, and that view has the number k.
pub record IsMade (old : Exporter) (d : Descriptor) (start : ℕ) (new : Exporter) (k : ℕ) : Type 0 where
  pub valid : IsValid d start (length old.bytes)
  pub checked : checked_format old d ≡ Ok true
  pub made : with_view old (layout_at d start) ≡ (new, reply.View k)

-- The descriptor isn't valid, or else its format is wrong.
abbrev pub IsRefusedWith : Exporter → Descriptor → ℕ → Fault → Type 0
IsRefusedWith e d start f = ((IsValid d start (length e.bytes) → ⊥) × (f ≡ fault.Value)) ⊎ ((IsValid d start (length e.bytes)) × (checked_format e d ≡ Err f))

-- what a call that makes a buffer by a descriptor answers
abbrev pub IsBufferBy : Exporter → Descriptor → ℕ → Exporter → Outcome ℕ → Type 0
IsBufferBy old d start new (outcome.Done k) = IsMade old d start new k
IsBufferBy old d start new (outcome.Refused f) = (IsRefusedWith old d start f) × (new ≡ old)

-- a check, and its refusal where it has one
abbrev pub RefusedAs : Result Bool Fault → Option Fault → Type 0
RefusedAs check refused = MatchOption refused (check ≡ Ok true) (λ fault. check ≡ Err fault)

-- the bytes of a view, row-major
abbrev pub content_at : Exporter → ℕ → List ℕ
content_at e view = content_of_layout e.bytes (layout_of e view)

-- the exporter has one more view, of a layout, and the result is its number
abbrev pub GainsView : {E : Type 0} → Layout → Exporter → Result ℕ E → Exporter → Type 0
GainsView layout old result new = IfOk result (λ made. with_view old layout ≡ (new, reply.View made))

-- so it has by a layout that is told of the exporter before
abbrev pub AddsView : {E : Type 0} → (Exporter → Layout) → StoredExporter → Result ℕ E → StoredExporter → Type 0
AddsView layout old result new = GainsView (layout old.exporter) old.exporter result new.exporter
