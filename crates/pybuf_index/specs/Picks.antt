-- Python's slice rule, as "Common Sequence Operations" of the library reference states it in its
-- notes on s[i:j] and s[i:j:k]: the indices are i, i + k, i + 2 * k and so on, stopping when j is
-- reached but never including j.
use Rattle.std.specs.Prelude.{ℕ, zero, suc, Bool, true, false, ℤ, pos, negsuc, ◌+ℤ◌, int_lt, nat_abs, List, [], ◌∷◌, Option, None, Some, if◌then◌else◌}
use Rattle.std.specs.Int.{int_min, int_max}

abbrev pub is_negative : ℤ → Bool
is_negative (pos n) = false
is_negative (negsuc n) = true

-- the least that a start or a stop can be: 0, or -1 if the step is negative
abbrev pub lower_bound : ℤ → ℤ
lower_bound step = if is_negative step then negsuc 0 else pos 0

-- the most that a start or a stop can be: the length, or the last index if the step is negative
abbrev pub upper_bound : ℕ → ℤ → ℤ
upper_bound n step = if is_negative step then pos n +ℤ negsuc 0 else pos n

-- A part, counted from the front. A negative part counts from the end, and is raised to the lower bound if it is below
-- that. Any other part is lowered to the upper bound if it is above that.
abbrev pub adjusted_part : ℕ → ℤ → ℤ → ℤ
adjusted_part n step (pos part) = int_min (pos part) (upper_bound n step)
adjusted_part n step (negsuc part) = int_max (negsuc part +ℤ pos n) (lower_bound step)

-- the start; if it is absent, it is the end of the sequence that the step leads away from
abbrev pub start_of : ℕ → Option ℤ → ℤ → ℤ
start_of n None step = if is_negative step then upper_bound n step else lower_bound step
start_of n (Some part) step = adjusted_part n step part

-- the stop; if it is absent, it is the end of the sequence that the step leads to
abbrev pub stop_of : ℕ → Option ℤ → ℤ → ℤ
stop_of n None step = if is_negative step then lower_bound step else upper_bound n step
stop_of n (Some part) step = adjusted_part n step part

-- whether an index comes before the stop in the direction of the step
abbrev pub comes_before : ℤ → ℤ → ℤ → Bool
comes_before index stop step = if is_negative step then int_lt stop index else int_lt index stop

-- the index, the index plus the step, and so on, as long as they come before the stop; at most this many
abbrev pub steps_to : ℕ → ℤ → ℤ → ℤ → List ℕ
steps_to zero index stop step = []
steps_to (suc most) index stop step =
    if comes_before index stop step then nat_abs index ∷ steps_to most (index +ℤ step) stop step else []

-- the indices of a slice of a sequence of n items, which are at most n
unfoldable pub picks : ℕ → Option ℤ → Option ℤ → ℤ → List ℕ
picks n start stop step = steps_to n (start_of n start step) (stop_of n stop step) step
