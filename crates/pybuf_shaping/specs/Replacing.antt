-- Bytes with others in place of the matches of a needle.
use Rattle.std.specs.Prelude.{ℕ, ◌-◌, ◌^◌, ℤ, pos, negsuc, List, Option, Some, None, Result}
use Rattle.bstr.specs.Owned.{joined}
use Rattle.pybuf_value.specs.declared.faults.Fault.{Fault}
use Rattle.pybuf_value.specs.Texts.{fitted}
use Rattle.pybuf_search.specs.Parts.{split_parts}

-- The parts between the first matches from the left, joined by other bytes. An empty needle stands before each byte and
-- at the end.
abbrev pub replaced : ℤ → List ℕ → List ℕ → List ℕ → List ℕ
replaced most old new bytes = joined new (split_parts most old bytes)

abbrev pub replacement : ℤ → List ℕ → List ℕ → List ℕ → Result (List ℕ) Fault
replacement most old new bytes = fitted (replaced most old new bytes)

-- how many matches are replaced: all if no number or a negative one is given
abbrev pub count_given : Option ℤ → ℤ
count_given None = negsuc 0
count_given (Some most) = most

abbrev pub limit_given : Option ℕ → ℤ
limit_given None = negsuc 0
limit_given (Some most) = pos most

-- the same as a machine word; all matches become the greatest word, which no number of matches passes
abbrev pub limit_of : ℤ → ℕ
limit_of (pos most) = most
limit_of (negsuc _) = 2 ^ 64 - 1
