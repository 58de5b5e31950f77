-- An item of the format `B` is its one byte.
use Rattle.std.proofs.Common.{◌≡◌, ℕ, ◌+◌, ◌*◌, pos, negsuc, List, [], ◌∷◌, Bool, true, false, ap, arith, refl}
use Rattle.std.specs.Prelude.{nat_lt, Result, Ok, Err, if◌then◌else◌}
use Rattle.std.specs.Int.{bytes_low_first}
use Rattle.std.proofs.Math.Nat.{mod-eq_of_lt}
use Rattle.std.proofs.lemmas.Bool.{ltb-true}
use Rattle.pybuf_value.specs.declared.faults.Fault.{Fault}
use Rattle.pybuf_value.specs.declared.faults.Fault.TheVariants as fault
use Rattle.pybuf_value.specs.Refusing.{◌>>=◌}
use Rattle.pybuf_value.specs.declared.values.Scalar.TheVariants as scalar
use Rattle.pybuf_value.specs.declared.values.Value.{Value}
use Rattle.pybuf_value.specs.declared.values.Value.TheVariants as value
use Rattle.pybuf_value.specs.declared.values.Item.TheVariants as item
use Rattle.pybuf_value.specs.declared.snaps.Snap.{Snap}
use Rattle.pybuf_struct.specs.Formats.{Field, codes_in, layout_from, format_after_prefix}
use Rattle.pybuf_struct.specs.declared.table.FormatType.TheVariants as code
use Rattle.pybuf_struct.specs.Packing.{contents_of, room_with_contents}
use Rattle.pybuf_memoryview.specs.Items.{item_by, byte_item, kind_fault, piece_by}
use Rattle.pybuf_memoryview.specs.SingleBytes.{byte_for_item}

pub reads_byte : (b : ℕ) → item_by (66 ∷ []) (b ∷ []) ≡ byte_item b
unfolding codes_in layout_from format_after_prefix
reads_byte b = ap (λ (n : ℕ). item.One (scalar.Int (pos n))) (let same : b * 1 + 0 ≡ b = omega arith in same)

abbrev pub piece_of_byte : Result ℕ Fault → Result (List ℕ) Fault
piece_of_byte r = r >>= λ b. Ok (b ∷ [])

-- the one field of the format
abbrev byte_field : Field
byte_field = record { code = code.UByte; offset = 0; length = 1 }

abbrev in_field : Result (List ℕ) Fault → Result (List ℕ) Fault
in_field r = kind_fault (room_with_contents (byte_field ∷ []) (r >>= λ bytes. Ok (bytes ∷ [])) (0 ∷ []))

by_test : (n : ℕ) (b : Bool) → nat_lt n 256 ≡ b
    → in_field (if b then Ok (bytes_low_first 0 1 n) else Err fault.Struct) ≡ piece_of_byte (kind_fault (if b then Ok n else Err fault.Value))
by_test n true is = ap (λ (m : ℕ). Ok (m ∷ [])) (mod-eq_of_lt (ltb-true n 256 is))
by_test n false is = refl

pub writes_byte : (pairs : List (ℕ × Snap)) (v : Value) → piece_by (66 ∷ []) pairs v ≡ piece_of_byte (byte_for_item v)
unfolding contents_of codes_in layout_from format_after_prefix
writes_byte pairs (value.One scalar.None) = refl
writes_byte pairs (value.One (scalar.Bool true)) = refl
writes_byte pairs (value.One (scalar.Bool false)) = refl
writes_byte pairs (value.One (scalar.Int (pos n))) = by_test n (nat_lt n 256) refl
writes_byte pairs (value.One (scalar.Int (negsuc n))) = refl
writes_byte pairs (value.One (scalar.Text text)) = refl
writes_byte pairs (value.One (scalar.Bytes bytes)) = refl
writes_byte pairs (value.One scalar.Ellipsis) = refl
writes_byte pairs (value.One (scalar.Handle h)) = refl
writes_byte pairs (value.Slice slice) = refl
writes_byte pairs (value.Tuple parts) = refl
writes_byte pairs (value.List parts) = refl
writes_byte pairs (value.Slices slices) = refl
