-- Parts that are read in turn, after one more part.
use Rattle.std.proofs.Common.{ℕ, ◌+◌, List, ◌++◌, map, Bor}
use Rattle.std.specs.Prelude.{Option, Some, None}
use Rattle.pybuf_line.specs.Parts.{each}

-- what was read, in front of what the rest gives
abbrev pub onto : {A : Type 0} → List A → Option (List A) → Option (List A)
onto done (Some rest) = Some (done ++ rest)
onto done None = None

abbrev pub texts : List (Bor (List ℕ)) → List (List ℕ)
texts parts = map (λ part. part.now) parts

abbrev pub each_of : {A : Type 0} → (List ℕ → Option A) → List (Bor (List ℕ)) → Option (List A)
each_of spelled parts = each spelled (texts parts)
