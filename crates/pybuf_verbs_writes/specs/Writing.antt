-- Writing an item in the way its code does it: by a format that was read before, by the letter of a number, or,
-- for the format `B`, as a single byte.
use Rattle.std.specs.Prelude.{◌≡◌, ℕ, ◌<◌, List, [], ◌∷◌, length, slice_index, Result, Ok}
use Rattle.pybuf_value.specs.declared.faults.Fault.{Fault}
use Rattle.pybuf_value.specs.declared.values.Scalar.{Scalar}
use Rattle.pybuf_value.specs.declared.values.Value.{Value}
use Rattle.pybuf_value.specs.declared.snaps.Snap.{Snap}
use Rattle.pybuf_value.specs.Refusing.{◌>>=◌}
use Rattle.pybuf_struct.specs.Formats.{Format}
use Rattle.pybuf_struct.specs.Packing.{packed_bytes}
use Rattle.pybuf_desc.specs.Layouts.{Layout}
use Rattle.pybuf_command.specs.declared.commands.LocalReply.{LocalReply}
use Rattle.pybuf_command.specs.declared.commands.LocalReply.TheVariants as reply
use Rattle.pybuf_memoryview.specs.Items.{kind_fault, piece_by}
use Rattle.pybuf_memoryview.specs.SingleBytes.{byte_for_item}
use Rattle.pybuf_state.specs.Exporter.{Exporter}
use Rattle.pybuf_verbs_writes.specs.Laid.{bytes_with}

-- the bytes after values are packed at a place
abbrev pub bytes_packed : List ℕ → ℕ → Format → List (ℕ × Snap) → List Scalar → Result (List ℕ) Fault
bytes_packed bytes place format pairs values = do
  piece ← kind_fault (packed_bytes format pairs values)
  Ok (bytes_with bytes place piece)

-- the bytes after a value is written at a place, as an item whose format is a single letter
abbrev pub bytes_by_letter : List ℕ → ℕ → ℕ → List (ℕ × Snap) → Value → Result (List ℕ) Fault
bytes_by_letter bytes place letter pairs value = do
  piece ← piece_by (letter ∷ []) pairs value
  Ok (bytes_with bytes place piece)

-- An item of the format `B` gets its one byte.
abbrev pub single_byte_set : Exporter → ℕ → Value → Result (Exporter × LocalReply) Fault
single_byte_set e place value = do
  byte ← byte_for_item value
  Ok (record e { bytes = bytes_with e.bytes place (byte ∷ []) }, reply.Ok)

-- A target has an item, and that item starts at the place.
pub record IsStartOfTarget (target : Result (Layout × ℕ) Fault) (layout : Layout) (place : ℕ) : Type 0 where
  pub item : ℕ
  pub found : target ≡ Ok (layout, item)
  pub there : item < length layout.starts
  pub starts : place ≡ slice_index layout.starts item
