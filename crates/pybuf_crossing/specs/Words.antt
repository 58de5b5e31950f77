-- Numbers, as a size and a sign.
use Rattle.std.specs.Prelude.{ℕ, ◌^◌, ◌≤◌, unsigned_abs, ℤ, pos, neg_ℤ, Bool, true, false, Option, Some, None}

-- the number of a size and a sign
abbrev pub signed : Bool → ℕ → ℤ
signed false magnitude = pos magnitude
signed true magnitude = neg_ℤ (pos magnitude)

-- There is no number, or its size doesn't fit into 64 bits.
abbrev pub IsNoWord : Option ℤ → Type 0
IsNoWord None = Unit {0}
IsNoWord (Some number) = 2 ^ 64 ≤ unsigned_abs number
