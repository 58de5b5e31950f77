-- A number that is read from its own digits, and the digits of a number that was read.
use Rattle.std.proofs.Common.{ℕ, ◌-◌, ◌<◌, List, get_or}

-- ---- the digits of a number that was read

abbrev pub IsBytes : List ℕ → Type 0
IsBytes bytes = (i : ℕ) → get_or bytes i 0 < 256
