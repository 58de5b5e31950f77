-- What handles name, as pairs of a handle and what it names.
use Rattle.std.specs.Prelude.{ℕ, ◌==◌, List, [], ◌∷◌, Option, Some, None, if◌then◌else◌}
use Rattle.std.specs.List.{flat_map, list_any}
use Rattle.pybuf_value.specs.declared.snaps.Snap.{Snap}

-- a handle with what it names, or nothing if it names nothing
abbrev pub paired : ℕ → Option Snap → List (ℕ × Snap)
paired handle (Some snap) = (handle, snap) ∷ []
paired handle None = []

-- each of some handles, with what it names
abbrev pub all_paired : (ℕ → Option Snap) → List ℕ → List (ℕ × Snap)
all_paired named handles = flat_map (λ handle. paired handle (named handle)) handles

-- what a handle names if it is one of some handles, and otherwise nothing
abbrev pub named_among : (ℕ → Option Snap) → List ℕ → ℕ → Option Snap
named_among named handles handle = if list_any (λ other. other == handle) handles then named handle else None
