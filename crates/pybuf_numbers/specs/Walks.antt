-- Lists of indices that are one stride apart.
use Rattle.std.specs.Prelude.{ℕ, zero, suc, ◌+◌, ◌-◌, ◌*◌, ◌<◌, ◌≤◌, Bool, true, false, not, List, [], ◌∷◌}
use Rattle.pybuf_numbers.specs.declared.runs.IndexRun.{IndexRun}

-- the next index, which is below or above the one before it
abbrev pub next_of : Bool → ℕ → ℕ → ℕ
next_of true start stride = start - stride
next_of false start stride = start + stride

-- this many indices, from the first one on
abbrev pub walk : Bool → ℕ → ℕ → ℕ → List ℕ
walk falls start stride zero = []
walk falls start stride (suc count) = start ∷ walk falls (next_of falls start stride) stride count

-- the indices of a run, in order
abbrev pub indices_of : IndexRun → List ℕ
indices_of r = walk r.falls r.start r.stride r.count

-- the index at a place
abbrev pub place_of : Bool → ℕ → ℕ → ℕ → ℕ
place_of true start stride k = start - k * stride
place_of false start stride k = start + k * stride

-- whether exactly one of the two is true
abbrev pub differ : Bool → Bool → Bool
differ true other = not other
differ false other = other

-- if there are indices, none of them is below 0, and each is below the number
abbrev pub WalksBelow : ℕ → Bool → ℕ → ℕ → ℕ → Type 0
WalksBelow n true start stride count = 0 < count → (start < n) × ((count - 1) * stride ≤ start)
WalksBelow n false start stride count = 0 < count → start + (count - 1) * stride < n

abbrev pub LiesBelow : ℕ → IndexRun → Type 0
LiesBelow n r = WalksBelow n r.falls r.start r.stride r.count

abbrev pub no_run : IndexRun
no_run = record { start = 0; stride = 1; count = 0; falls = false }
