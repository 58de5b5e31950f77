-- Bytes or numbers in front of those of the remaining parts of a list.
use Rattle.std.proofs.Common.{◌+◌, List, ◌++◌, Result, Ok, Err}
use Rattle.pybuf_value.specs.declared.faults.Fault.{Fault}

abbrev pub bytes_before : {A : Type 0} → List A → Result (List A) Fault → Result (List A) Fault
bytes_before bytes (Ok rest) = Ok (bytes ++ rest)
bytes_before bytes (Err f) = Err f
