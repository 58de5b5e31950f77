-- Numbers at one distance from each other, and the span of a slice in its sequence.
use Rattle.std.specs.Prelude.{ℕ, zero, suc, ◌+◌, ◌-◌, ◌*◌, ◌/◌, max, Bool, true, false, List, [], ◌∷◌, reverse, ℤ, pos, negsuc, ◌+ℤ◌, neg_ℤ, nat_abs, nat_lt, if◌then◌else◌}
use Rattle.pybuf_index.specs.Picks.{is_negative, start_of, stop_of, steps_to}
use Rattle.pybuf_index.specs.Parts.{SliceParts}

-- this many numbers, from the lowest up, one stride apart
abbrev pub rising : ℕ → ℕ → ℕ → List ℕ
rising low stride zero = []
rising low stride (suc count) = low ∷ rising (low + stride) stride count

-- the same numbers; if the run falls, the greatest comes first
abbrev pub run_of : Bool → ℕ → ℕ → ℕ → List ℕ
run_of falls low stride count = if falls then reverse (rising low stride count) else rising low stride count

-- how many numbers from low up, one stride apart, stay below high
abbrev pub how_many : ℕ → ℕ → ℕ → ℕ
how_many low high stride = if nat_lt low high then (high - low - 1) / stride + 1 else 0

-- The first place of a slice's span in a sequence of n items. It is the start, or one past the stop if the step is
-- negative.
abbrev pub span_start : ℕ → SliceParts → ℕ
span_start n parts =
    if is_negative parts.step
    then nat_abs (stop_of n parts.stop parts.step +ℤ pos 1)
    else nat_abs (start_of n parts.start parts.step)

-- the other end of the span: the stop, or one past the start if the step is negative
abbrev pub span_limit : ℕ → SliceParts → ℕ
span_limit n parts =
    if is_negative parts.step
    then nat_abs (start_of n parts.start parts.step +ℤ pos 1)
    else nat_abs (stop_of n parts.stop parts.step)

-- one past the greatest place of the span; if nothing lies between its ends, the span is empty
abbrev pub span_end : ℕ → SliceParts → ℕ
span_end n parts =
    max (span_start n parts) (span_limit n parts)

-- the indices of a span: from its first place up, or from its last one down if the step is negative
unfoldable pub picks_in_span : ℕ → ℕ → ℤ → List ℕ
picks_in_span low high step =
    if is_negative step
    then steps_to (high - low) (pos high +ℤ negsuc 0) (pos low +ℤ negsuc 0) step
    else steps_to (high - low) (pos low) (pos high) step

-- the least number of a run of this many indices in a span; if they fall, it is the last of them
abbrev pub run_low : Bool → ℕ → ℕ → ℕ → ℕ → ℕ
run_low falls low high stride count = if falls then high - 1 - (count - 1) * stride else low

-- a step of this size, up or down
abbrev pub signed_step : Bool → ℕ → ℤ
signed_step false size = pos size
signed_step true size = neg_ℤ (pos size)
