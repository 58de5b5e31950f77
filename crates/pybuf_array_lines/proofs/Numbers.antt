-- Whole numbers that are read in turn, after one more number.
use Rattle.std.proofs.Common.{◌+◌, List, ◌++◌, ℤ}
use Rattle.std.specs.Prelude.{Option, Some, None}

-- what was read, in front of what the rest gives
abbrev pub onto : List ℤ → Option (List ℤ) → Option (List ℤ)
onto done (Some rest) = Some (done ++ rest)
onto done None = None
