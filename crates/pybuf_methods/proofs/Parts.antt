-- Lists of bytes in front of those of the remaining parts.
use Rattle.std.proofs.Common.{ℕ, List, ◌++◌, Result, Ok, Err}
use Rattle.pybuf_value.specs.declared.faults.Fault.{Fault}

abbrev pub lists_before : List (List ℕ) → Result (List (List ℕ)) Fault → Result (List (List ℕ)) Fault
lists_before lists (Ok rest) = Ok (lists ++ rest)
lists_before lists (Err f) = Err f
