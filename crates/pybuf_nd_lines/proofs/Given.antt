-- What each entry of a list gives, after one more entry.
use Rattle.std.proofs.Common.{◌+◌, List, ◌++◌}
use Rattle.std.specs.Prelude.{Option, Some, None}

-- what the entries so far gave, in front of what the rest gives
abbrev pub onto : {B : Type 0} → List B → Option (List B) → Option (List B)
onto done (Some rest) = Some (done ++ rest)
onto done None = None
