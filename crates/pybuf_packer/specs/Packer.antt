-- A format with values, which are those to be packed or those that it unpacked.
use Rattle.std.specs.Prelude.{◌≡◌, ◌<◌, ℕ, ℤ, pos, true, false, List, [], ◌∷◌, ◌++◌, length, Option, Some, None, Result, Ok, Err}
use Rattle.pybuf_value.specs.Refusing.{◌>>=◌}
use Rattle.pybuf_value.specs.declared.faults.Fault.{Fault}
use Rattle.pybuf_value.specs.declared.halt.Halt.{Halt}
use Rattle.pybuf_value.specs.declared.halt.Halt.TheVariants as halt
use Rattle.pybuf_value.specs.declared.values.Scalar.{Scalar}
use Rattle.pybuf_value.specs.declared.values.Scalar.TheVariants as scalar
use Rattle.pybuf_struct.specs.Formats.{Format, format_of}
use Rattle.pybuf_struct.specs.Offsets.{packed_at}
use Rattle.pybuf_struct.specs.Values.{unpacked_values}
use Rattle.pybuf_packer.specs.declared.packer.Packed.{Packed}
use Rattle.pybuf_packer.specs.declared.packer.Packed.TheVariants as packed

-- A format, with the values that were put one by one, or those that were unpacked last.
pub record Packer : Type 0 where
  pub format : Format
  pub values : List Scalar

-- the format that a text spells, without values
abbrev pub packer_of : List ℕ → Result Packer Fault
packer_of text = do
  format ← format_of text
  Ok (record { format = format; values = [] })

abbrev pub without_values : Packer → Packer
without_values packer = record { format = packer.format; values = [] }

-- the same format, with one more value behind the others
abbrev pub with_value : Packer → Scalar → Packer
with_value packer value = record { format = packer.format; values = packer.values ++ value ∷ [] }

-- What packing gives. The bytes of the values stand at the front of the room, and the rest of the room is as
-- before. If the room is shorter than the bytes, or the format refuses the values, the room is as before.
abbrev pub Packs : Packed → Packer → List ℕ → List ℕ → Type 0
Packs packed.Whole packer old new = packed_at packer.format packer.values 0 old ≡ Ok new
Packs packed.TooSmall packer old new = (length old < packer.format.size) × (new ≡ old)
Packs (packed.Refused fault) packer old new = (packed_at packer.format packer.values 0 old ≡ Err fault) × (new ≡ old)

-- The values of the bytes replace those from before.
pub record HasUnpacked (bytes : List ℕ) (old new : Packer) : Type 0 where
  pub values : unpacked_values old.format bytes ≡ Ok new.values
  pub format : new.format ≡ old.format

-- What unpacking gives. If it is refused, or memory runs out, nothing changes.
abbrev pub Unpacks : {X : Type 0} → Result X Halt → List ℕ → Packer → Packer → Type 0
Unpacks (Ok x) bytes old new = HasUnpacked bytes old new
Unpacks (Err (halt.Refused fault)) bytes old new = (unpacked_values old.format bytes ≡ Err fault) × (new ≡ old)
Unpacks (Err halt.NoMemory) bytes old new = new ≡ old

-- ---- what a caller learns of a value

-- the kind of a value: a whole number, a truth value, bytes, or another, which formats don't have
abbrev pub value_kind : Option Scalar → ℕ
value_kind (Some (scalar.Int number)) = 0
value_kind (Some (scalar.Bool truth)) = 1
value_kind (Some (scalar.Bytes bytes)) = 2
value_kind _ = 3

-- the number of a value, which is 0 or 1 for a truth value, and the length for bytes
abbrev pub value_number : Option Scalar → Option ℤ
value_number (Some (scalar.Int number)) = Some number
value_number (Some (scalar.Bool true)) = Some (pos 1)
value_number (Some (scalar.Bool false)) = Some (pos 0)
value_number (Some (scalar.Bytes bytes)) = Some (pos (length bytes))
value_number _ = None

abbrev pub value_bytes : Option Scalar → Option (List ℕ)
value_bytes (Some (scalar.Bytes bytes)) = Some bytes
value_bytes _ = None
