-- `repr`: the text that a subject is shown as ("Bytes Objects" and "Bytearray Objects" of Python's library
-- reference; a view has its number where Python writes an address).
use Rattle.std.specs.Prelude.{ℕ, Bool, true, false, List, [], ◌++◌, codes, decimal, Result, Ok}
use Rattle.pybuf_value.specs.declared.faults.Fault.{Fault}
use Rattle.pybuf_value.specs.declared.faults.Fault.TheVariants as fault
use Rattle.pybuf_value.specs.Refusing.{◌>>=◌, unless}
use Rattle.pybuf_value.specs.Texts.{fitted}
use Rattle.pybuf_value.specs.Quotes.{repr_of}
use Rattle.pybuf_command.specs.declared.kinds.ExporterKind.{ExporterKind}
use Rattle.pybuf_command.specs.declared.kinds.ExporterKind.TheVariants as kind
use Rattle.pybuf_command.specs.declared.commands.LocalReply.{LocalReply}
use Rattle.pybuf_command.specs.declared.commands.LocalReply.TheVariants as reply
use Rattle.pybuf_state.specs.Exporter.{Exporter, view_at}
use Rattle.pybuf_state.specs.Keeps.{is_vector}

-- bytes and bytearrays as Python writes them
abbrev pub shown_bytes : ExporterKind → List ℕ → List ℕ
shown_bytes kind.ByteArray bytes = repr_of (codes "bytearray(b") bytes (codes ")")
shown_bytes _ bytes = repr_of (codes "b") bytes []

-- The reply that shows a text. The text has at most `isize::MAX` bytes.
abbrev pub shown : Exporter → List ℕ → Result (Exporter × LocalReply) Fault
shown e text = do
  whole ← fitted text
  Ok (e, reply.Shown whole)

-- `repr` of bytes or of a bytearray. A vector isn't shown.
abbrev pub repr_of_own : Exporter → Result (Exporter × LocalReply) Fault
repr_of_own e = do
  _ ← unless (is_vector e.kind) fault.UnknownName
  shown e (shown_bytes e.kind e.bytes)

-- a view, shown by its number among those of its exporter
abbrev pub shown_view : ℕ → Bool → List ℕ
shown_view k true = codes "<released memory " ++ decimal k ++ codes ">"
shown_view k false = codes "<memory " ++ decimal k ++ codes ">"

-- `repr` of a view, which may be released
abbrev pub repr_of_view : Exporter → ℕ → Result (Exporter × LocalReply) Fault
repr_of_view e k = do
  view ← view_at e k
  Ok (e, reply.Shown (shown_view k view.released))
