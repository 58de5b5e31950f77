-- The hash of a slice, over numbers of 64 bits. It is computed from the hashes of the slice's parts, which are its
-- lanes.
use Rattle.std.specs.Prelude.{ℕ, ◌+◌, ◌-◌, ◌*◌, ◌^◌, ◌%◌, ◌==◌, ℤ, negsuc, if◌then◌else◌}
use Rattle.std.specs.Int.{w64, rotate_left, cast_signed}

-- the part of a number that 64 bits keep
abbrev pub wrapped : ℕ → ℕ
wrapped n = n % 2 ^ 64

-- the number of 64 bits that stands for -1
abbrev pub minus_one : ℕ
minus_one = 2 ^ 64 - 1

-- one more lane is mixed in: the lane is multiplied and added, and the sum is rotated left by 31 bits and multiplied
abbrev pub mixed : ℕ → ℕ → ℕ
mixed hash lane =
    wrapped (rotate_left w64 (wrapped (hash + wrapped (lane * 14029467366897019727))) 31 * 11400714785074694791)

-- the hash, or another number in place of -1, which no hash may be
abbrev pub other_than_minus_one : ℕ → ℕ
other_than_minus_one hash = if hash == minus_one then 1546275796 else hash

-- If a lane is -1, its part has no hash, and the whole hash is -1. Else the lanes are mixed in their order.
abbrev pub hash_of : ℕ → ℕ → ℕ → ℤ
hash_of start stop step =
    if start == minus_one then negsuc 0
    else if stop == minus_one then negsuc 0
    else if step == minus_one then negsuc 0
    else cast_signed w64 (other_than_minus_one (mixed (mixed (mixed 2870177450012600261 start) stop) step))
