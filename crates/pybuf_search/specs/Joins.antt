-- Bytes that are put together, if there are not too many.
use Rattle.std.specs.Prelude.{ℕ, ◌^◌, nat_lt, List, ◌++◌, Option, Some, None, if◌then◌else◌}
use Rattle.std.specs.List.{flat_map}

-- the length if it is at most `isize::MAX`
abbrev pub fitted_length : ℕ → Option ℕ
fitted_length total = if nat_lt total (2 ^ 63) then Some total else None

-- each of some parts after a separator
abbrev pub further : List ℕ → List (List ℕ) → List ℕ
further separator parts = flat_map (λ part. separator ++ part) parts
