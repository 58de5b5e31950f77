-- Subjects whose bytes are lent to be written in place.
use Rattle.std.specs.Prelude.{◌≡◌, ℕ, Bool, true, false, not, ◌&&◌, List, [], slice_index, Result, Ok, Err, MatchResult}
use Rattle.pybuf_value.specs.declared.faults.Fault.{Fault}
use Rattle.pybuf_value.specs.declared.faults.Fault.TheVariants as fault
use Rattle.pybuf_value.specs.Refusing.{◌>>=◌, unless}
use Rattle.pybuf_desc.specs.Items.{content_of_layout}
use Rattle.pybuf_command.specs.declared.kinds.Subject.{Subject}
use Rattle.pybuf_command.specs.declared.kinds.Subject.TheVariants as subject
use Rattle.pybuf_command.specs.Kinds.{holds_readonly}
use Rattle.pybuf_state.specs.Exporter.{Exporter, live_layout, iterator_at}
use Rattle.pybuf_state.specs.Live.{is_live, layout_of, is_writable_run}
use Rattle.pybuf_exporter.specs.Stored.{StoredExporter}
use Rattle.pybuf_exporter.specs.Lending.{overwritten_exporter, written_from}

-- Which subjects lend their bytes to be written. An exporter lends all its bytes, unless they can only be read.
-- A view lends the bytes of its items, unless it was never given, is released, can only be read, or has items
-- that don't lie one after the other. An iterator has no bytes.
abbrev pub asked_to_write : Exporter → Subject → Result Bool Fault
asked_to_write e subject.Own = unless (holds_readonly e.kind) fault.Kind
asked_to_write e (subject.View k) = do
  layout ← live_layout e k
  unless (not (is_writable_run layout)) fault.Kind
asked_to_write e (subject.Iter k) = do
  it ← iterator_at e k
  Err fault.Kind

-- whether a subject lends its bytes to be written
abbrev pub is_writable : Exporter → Subject → Bool
is_writable e subject.Own = not (holds_readonly e.kind)
is_writable e (subject.View k) = is_live e k && is_writable_run (layout_of e k)
is_writable e (subject.Iter k) = false

-- the bytes that are lent
abbrev pub lent_bytes : Exporter → Subject → List ℕ
lent_bytes e subject.Own = e.bytes
lent_bytes e (subject.View k) = content_of_layout e.bytes (layout_of e k)
lent_bytes e (subject.Iter k) = []

-- The exporter's bytes after others were written over those that were lent. The bytes of a view begin at its
-- first item.
abbrev pub bytes_after : Exporter → Subject → List ℕ → List ℕ
bytes_after e subject.Own bytes = (overwritten_exporter e bytes).bytes
bytes_after e (subject.View k) bytes = (written_from e (slice_index (layout_of e k).starts 0) bytes).bytes
bytes_after e (subject.Iter k) bytes = e.bytes

-- Nothing else of the exporter changes.
abbrev pub written_through : Exporter → Subject → List ℕ → Exporter
written_through e s bytes = record e { bytes = bytes_after e s bytes }

-- The room of a stored exporter stays too.
abbrev pub stored_through : StoredExporter → Subject → List ℕ → StoredExporter
stored_through s u bytes = record s { exporter = written_through s.exporter u bytes }

-- a call is refused exactly as asking to write is
abbrev pub RefusedAsAsked : {A : Type 0} → Exporter → Subject → Result A Fault → Type 0
RefusedAsAsked e s result = MatchResult result (λ _. asked_to_write e s ≡ Ok true) (λ f. asked_to_write e s ≡ Err f)
