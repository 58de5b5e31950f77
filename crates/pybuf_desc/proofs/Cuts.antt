-- Blocks of places are cut out, and put down again one after the other.
use Rattle.std.proofs.Common.{ℕ, ◌+◌, ℤ, pos, negsuc, ◌+ℤ◌, ◌-◌}

-- ---- indices one step apart, each below `n`; the first lies a step after `before`

-- the first index of a span
abbrev pub span_first : ℕ → ℕ → ℤ → ℤ
span_first low high (pos s) = pos low
span_first low high (negsuc s) = pos high +ℤ negsuc 0
