-- The bounds between which bytes are looked at.
use Rattle.std.specs.Prelude.{ℕ, suc, ℤ, pos, negsuc, ◌-◌, min, Bool, nat_le, List, length, Option, None, Some, if◌then◌else◌, slice_range}
use Rattle.std.specs.Int.{w64, saturate_signed}
use Rattle.std.specs.declared.ops.Range.{Range}

-- the place of a bound: a negative one counts from the end, and is 0 if it lies before the front
abbrev pub place_of : ℕ → ℤ → ℕ
place_of len (pos n) = n
place_of len (negsuc n) = len - suc n

-- the start, clamped to `isize` first; it may lie past the end of the bytes
abbrev pub start_in : ℕ → Option ℤ → ℕ
start_in len None = 0
start_in len (Some part) = place_of len (saturate_signed w64 part)

-- the end, clamped to `isize` first; it is at most the length
abbrev pub end_in : ℕ → Option ℤ → ℕ
end_in len None = len
end_in len (Some part) = min (place_of len (saturate_signed w64 part)) len

abbrev pub adjusted : Option ℤ → Option ℤ → ℕ → Range ℕ
adjusted start end len = record { start = start_in len start; end = end_in len end }

-- whether the start is at most the end
abbrev pub is_normal : Range ℕ → Bool
is_normal range = nat_le range.start range.end

-- no range if neither bound is given
abbrev pub range_if_any : Option ℤ → Option ℤ → ℕ → Option (Range ℕ)
range_if_any None None len = None
range_if_any start end len = Some (adjusted start end len)

-- the bytes in a range; none if its start passes its end
abbrev pub in_range : List ℕ → Range ℕ → Option (List ℕ)
in_range bytes range = if is_normal range then Some (slice_range bytes range.start range.end) else None

-- the bytes between two bounds; all of them if neither is given
abbrev pub in_range_if_any : List ℕ → Option (Range ℕ) → Option (List ℕ)
in_range_if_any bytes None = Some bytes
in_range_if_any bytes (Some range) = in_range bytes range

abbrev pub between_bounds : Option ℤ → Option ℤ → List ℕ → Option (List ℕ)
between_bounds start end bytes = in_range_if_any bytes (range_if_any start end (length bytes))
