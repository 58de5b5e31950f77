-- Pieces that are written over bytes.
use Rattle.std.proofs.Common.{◌≡◌, ℕ, ◌+◌, ◌<◌, ◌≤◌, List, [], ◌∷◌, length, take, drop, arith, append_assoc, add-one}
use Rattle.std.specs.Prelude.{set}
use Rattle.std.proofs.lemmas.List.{set_split}
use Rattle.std.proofs.lemmas.Grind.{common_steps}
use Rattle.pybuf_verbs_writes.specs.Laid.{bytes_with}

pub length-bytes_with : (bytes : List ℕ) (place : ℕ) (piece : List ℕ) → place + length piece ≤ length bytes → length (bytes_with bytes place piece) ≡ length bytes
length-bytes_with bytes place piece inside = grind (arith, common_steps, inside)

pub dropped : (bytes piece : List ℕ) (place : ℕ) → place + length piece ≤ length bytes → drop (place + length piece) (bytes_with bytes place piece) ≡ drop (place + length piece) bytes
dropped bytes piece place inside = grind (arith, common_steps, inside)

pub between : (bytes piece : List ℕ) (place : ℕ) → place ≤ length bytes → take (length piece) (drop place (bytes_with bytes place piece)) ≡ piece
between bytes piece place inside = grind (arith, common_steps, inside)

-- A single byte that is written at a place is set there.
pub bytes_with_one : (bytes : List ℕ) (i x : ℕ) → i < length bytes → bytes_with bytes i (x ∷ []) ≡ set bytes i x
bytes_with_one bytes i x inside = rw (append_assoc, set_split, add-one)
