-- What calls say of the format of a handle and of its values, before and after.
use Rattle.std.specs.Prelude.{◌≡◌, ℕ, Bool, List, slice_get, Option, IsSomeAnd}
use Rattle.pybuf_value.specs.declared.values.Scalar.{Scalar}
use Rattle.pybuf_value.specs.declared.values.Scalar.TheVariants as scalar
use Rattle.pybuf_struct.specs.Offsets.{packed_at}
use Rattle.pybuf_struct.specs.Values.{unpacked_values}
use Rattle.pybuf_crossing.specs.Rooms.{Hands}
use Rattle.pybuf_crossing.specs.Words.{signed}
use Rattle.pybuf_crossing.specs.declared.rooms.Handed.{Handed}
use Rattle.pybuf_packer.specs.Held.{held}
use Rattle.pybuf_packer.specs.Packer.{Packer, with_value, value_number, value_bytes}
use Rattle.pybuf_packer.specs.declared.handle.FormatHandle.{FormatHandle}
use Rattle.pybuf_c.specs.Holding.{BothHold, IsWord}
use Rattle.pybuf_c.specs.Status.{result_number}

-- the handle's format and values became what a definition makes of them
abbrev pub Becomes : (Packer → Packer) → FormatHandle → FormatHandle → Type 0
Becomes after old new = BothHold (λ before now. now ≡ after before) (held old) (held new)

-- a value was put behind the others
abbrev pub Gains : Scalar → FormatHandle → FormatHandle → Type 0
Gains value old new = BothHold (λ before now. now ≡ with_value before value) (held old) (held new)

-- so was the number of a size and a sign
abbrev pub GainsWord : Bool → ℕ → FormatHandle → FormatHandle → Type 0
GainsWord negative magnitude old new = BothHold (λ before now. now ≡ with_value before (scalar.Int (signed negative magnitude))) (held old) (held new)

-- the call answers the refusal of packing the values to a room
abbrev pub RefusesToPack : ℕ → List ℕ → FormatHandle → Type 0
RefusesToPack n room handle = IsSomeAnd (held handle) (λ packer. n ≡ result_number (packed_at packer.format packer.values 0 room))

-- the call answers the refusal of unpacking bytes
abbrev pub RefusesToUnpack : ℕ → List ℕ → FormatHandle → Type 0
RefusesToUnpack n bytes handle = IsSomeAnd (held handle) (λ packer. n ≡ result_number (unpacked_values packer.format bytes))

-- the handle has a format, and this is said of its value at a place
abbrev pub OfValue : ℕ → (Option Scalar → Type 0) → FormatHandle → Type 0
OfValue index Says handle = IsSomeAnd (held handle) (λ packer. Says (slice_get packer.values index))

-- that value is the number of a size and a sign
abbrev pub ValueIsWord : ℕ → Bool → ℕ → FormatHandle → Type 0
ValueIsWord index negative magnitude handle =
    IsSomeAnd (held handle) (λ packer. IsWord (value_number (slice_get packer.values index)) negative magnitude)

-- its bytes are handed out so, with a room and a count before and after
abbrev pub HandsValue : Handed → ℕ → FormatHandle → List ℕ → List ℕ → ℕ → ℕ → Type 0
HandsValue how index handle old new count_old count_new =
    IsSomeAnd (held handle) (λ packer. Hands how (value_bytes (slice_get packer.values index)) old new count_old count_new)
