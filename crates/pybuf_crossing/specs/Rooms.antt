-- Bytes that are copied into a room, which is memory that the caller gives.
use Rattle.std.specs.Prelude.{◌≡◌, ◌<◌, ℕ, List, length, take, drop, Option, Some, None}
use Rattle.pybuf_crossing.specs.declared.rooms.Handed.{Handed}
use Rattle.pybuf_crossing.specs.declared.rooms.Handed.TheVariants as handed

-- The bytes stand at the front of the room, and the rest of the room is as before.
pub record IsCopied (bytes old new : List ℕ) : Type 0 where
  pub front : take (length bytes) new ≡ bytes
  pub rest : drop (length bytes) new ≡ drop (length bytes) old

-- What a caller gets of bytes, if there are some: a copy and its length. If the room is shorter, the caller
-- gets the length alone.
abbrev pub Hands : Handed → Option (List ℕ) → List ℕ → List ℕ → ℕ → ℕ → Type 0
Hands handed.Whole (Some bytes) old new length_old length_new = (length_new ≡ length bytes) × IsCopied bytes old new
Hands handed.Whole None old new length_old length_new = ⊥
Hands handed.TooSmall (Some bytes) old new length_old length_new = (length_new ≡ length bytes) × (length old < length bytes) × (new ≡ old)
Hands handed.TooSmall None old new length_old length_new = ⊥
Hands handed.Nothing bytes old new length_old length_new = (bytes ≡ None) × (new ≡ old) × (length_new ≡ length_old)
Hands handed.NoMemory bytes old new length_old length_new = (new ≡ old) × (length_new ≡ length_old)
