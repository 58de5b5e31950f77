-- The edits that add or replace bytes, when a handle names the bytes.
use Rattle.std.specs.Prelude.{ℕ, List, ◌++◌, Option, Some, Result, Ok, Err}
use Rattle.pybuf_value.specs.declared.faults.Fault.{Fault}
use Rattle.pybuf_value.specs.declared.faults.Fault.TheVariants as fault
use Rattle.pybuf_value.specs.declared.snaps.Snap.{Snap}
use Rattle.pybuf_value.specs.Refusing.{◌>>=◌}
use Rattle.pybuf_value.specs.Snaps.{content_of, content_of_named}
use Rattle.pybuf_index.specs.Parts.{SliceParts}
use Rattle.pybuf_command.specs.declared.kinds.Subject.{Subject}
use Rattle.pybuf_command.specs.declared.commands.LocalReply.{LocalReply}
use Rattle.pybuf_command.specs.declared.loans.Loan.{Loan}
use Rattle.pybuf_command.specs.declared.loans.Loan.TheVariants as loan
use Rattle.pybuf_state.specs.Exporter.{Exporter}
use Rattle.pybuf_state.specs.Loans.{snap_in}
use Rattle.pybuf_state.specs.Snaps.{snap_of_subject}
use Rattle.pybuf_state.specs.Resizing.{resizable}
use Rattle.pybuf_verbs_edits.specs.Common.{with_bytes}
use Rattle.pybuf_verbs_edits.specs.Growing.{repeated_unless_empty}
use Rattle.pybuf_verbs_edits.specs.Replacing.{assigned, replaced_all}

-- ---- bytes at the end

abbrev pub bytes_added : Exporter → List ℕ → Result (Exporter × LocalReply) Fault
bytes_added e bytes = do
  _ ← resizable e
  Ok (with_bytes e (e.bytes ++ bytes))

-- An exporter is extended by the bytes of what a handle names, if that is there.
abbrev pub extended_by : Exporter → Option Snap → Result (Exporter × LocalReply) Fault
extended_by e lent = do
  bytes ← content_of_named lent
  bytes_added e bytes

-- those of a subject of the exporter itself
abbrev pub extended_of : Exporter → Subject → Result (Exporter × LocalReply) Fault
extended_of e s = extended_by e (snap_of_subject e s)

-- The same for `iadd`, which wants bytes that lie one after the other.
abbrev pub added_by : Exporter → Option Snap → Result (Exporter × LocalReply) Fault
added_by e lent = do
  bytes ← content_of lent
  bytes_added e bytes

-- the same of a subject of the exporter itself
abbrev pub added_of : Exporter → Subject → Result (Exporter × LocalReply) Fault
added_of e s = added_by e (snap_of_subject e s)

-- The same by what the handle is lent as: an exporter that is extended by itself is then twice what it was.
abbrev pub extended_as : Exporter → Option Loan → Result (Exporter × LocalReply) Fault
extended_as e (Some loan.Own) = repeated_unless_empty e 2
extended_as e l = extended_by e (snap_in e l)

-- `iadd` never adds an exporter's own bytes.
abbrev pub added_as : Exporter → Option Loan → Result (Exporter × LocalReply) Fault
added_as e (Some loan.Own) = Err fault.Buffer
added_as e l = added_by e (snap_in e l)

-- ---- bytes in place of others

-- A slice is set to the bytes of what a handle names, if that is there.
abbrev pub assigned_by : Exporter → SliceParts → Option Snap → Result (Exporter × LocalReply) Fault
assigned_by e parts lent = do
  bytes ← content_of_named lent
  assigned e parts bytes

-- the same of a subject of the exporter itself
abbrev pub assigned_of : Exporter → SliceParts → Subject → Result (Exporter × LocalReply) Fault
assigned_of e parts s = assigned_by e parts (snap_of_subject e s)

-- and of what a handle is lent as
abbrev pub assigned_as : Exporter → SliceParts → Option Loan → Result (Exporter × LocalReply) Fault
assigned_as e parts l = assigned_by e parts (snap_in e l)

-- The bytes of what a handle names replace all bytes, if that is there.
abbrev pub initialized_by : Exporter → Option Snap → Result (Exporter × LocalReply) Fault
initialized_by e lent = do
  bytes ← content_of_named lent
  replaced_all e bytes

-- the same of a subject of the exporter itself
abbrev pub initialized_of : Exporter → Subject → Result (Exporter × LocalReply) Fault
initialized_of e s = initialized_by e (snap_of_subject e s)

-- and of what a handle is lent as
abbrev pub initialized_as : Exporter → Option Loan → Result (Exporter × LocalReply) Fault
initialized_as e l = initialized_by e (snap_in e l)
