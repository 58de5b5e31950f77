-- What the edits of a bytearray have in common.
use Rattle.std.specs.Prelude.{ℕ, ◌==◌, Bool, true, false, List, [], ◌∷◌, Option, Some, if◌then◌else◌}
use Rattle.pybuf_value.specs.declared.values.Scalar.TheVariants as scalar
use Rattle.pybuf_value.specs.declared.values.Value.{Value}
use Rattle.pybuf_value.specs.declared.values.Value.TheVariants as value
use Rattle.pybuf_command.specs.declared.kinds.Subject.{Subject}
use Rattle.pybuf_command.specs.declared.kinds.Subject.TheVariants as subject
use Rattle.pybuf_command.specs.declared.commands.LocalReply.{LocalReply}
use Rattle.pybuf_command.specs.declared.commands.LocalReply.TheVariants as reply
use Rattle.pybuf_state.specs.Exporter.{Exporter}
use Rattle.pybuf_state.specs.Loans.{Lent}

-- an exporter with other bytes, and a reply that says nothing
abbrev pub with_bytes : Exporter → List ℕ → Exporter × LocalReply
with_bytes e bytes = (record e { bytes = bytes }, reply.Ok)

-- ---- the exporter itself as a value

abbrev pub is_own : Option Subject → Bool
is_own (Some subject.Own) = true
is_own _ = false

-- whether a handle is lent as the exporter itself
abbrev pub names_own : List Lent → ℕ → Bool
names_own [] h = false
names_own (l ∷ lents) h = if l.handle == h then is_own l.subject else names_own lents h

abbrev pub is_itself : Value → List Lent → Bool
is_itself (value.One (scalar.Handle h)) lents = names_own lents h
is_itself _ lents = false
