-- Facts about the definitions of this crate, with their proofs, for the proofs of the crates above.
use Rattle.std.proofs.Common.{◌≡◌, ℕ, ◌≤◌, List, length, take, arith}
use Rattle.std.proofs.lemmas.Grind.{common_steps}
use Rattle.pybuf_verbs_writes.specs.Laid.{bytes_with}

pub bytes_before_piece : (bytes piece : List ℕ) (place : ℕ) → place ≤ length bytes → take place (bytes_with bytes place piece) ≡ take place bytes
bytes_before_piece bytes piece place inside = grind (arith, common_steps, inside)
