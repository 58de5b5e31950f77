-- Searches and cuts, by their arguments.
use Rattle.std.specs.Prelude.{◌≡◌, ◌≤◌, ℕ, ℤ, ◌++◌, Bool, List, length, Option, None, Some, Result, Ok, Err}
use Rattle.std.specs.Borrow.{Bor}
use Rattle.std.specs.Global.{Vec}
use Rattle.pybuf_value.specs.Halting.{GivesOutcome}
use Rattle.std.specs.declared.ops.Range.{Range}
use Rattle.pybuf_value.specs.declared.faults.Fault.{Fault}
use Rattle.pybuf_value.specs.declared.faults.Fault.TheVariants as fault
use Rattle.pybuf_value.specs.declared.faults.Outcome.{Outcome}
use Rattle.pybuf_value.specs.declared.faults.Outcome.TheVariants as outcome
use Rattle.pybuf_value.specs.declared.snaps.Snap.{Snap}
use Rattle.pybuf_value.specs.declared.values.Value.{Value}
use Rattle.pybuf_value.specs.declared.values.Value.TheVariants as value
use Rattle.pybuf_value.specs.Refusing.{◌>>=◌}
use Rattle.pybuf_value.specs.Snaps.{bytes_in}
use Rattle.pybuf_search.specs.Places.{holds_needle}
use Rattle.bstr.specs.Text.{repeated}
use Rattle.pybuf_value.specs.Texts.{fitted}
use Rattle.pybuf_value.specs.Numbers.{times}
use Rattle.pybuf_search.specs.Parts.{split_parts, rsplit_parts, partition_of, rpartition_of}
use Rattle.pybuf_letters.specs.Blanks.{blank_parts, blank_rparts}
use Rattle.pybuf_bytes.specs.declared.needles.Needle.{Needle}
use Rattle.pybuf_search.specs.Bounds.{adjusted}
use Rattle.pybuf_search.specs.Ranges.{place_in_range, number_in_range, IsPlaceInRange, IsSearch}
use Rattle.pybuf_search.specs.Separators.{by_separator}
use Rattle.pybuf_bytes.specs.Needles.{needle_bytes}

-- ---- searches

-- whether bytes hold the needle, or why the needle is refused
abbrev pub contains_by : Result (List ℕ) Fault → List ℕ → Result Bool Fault
contains_by sought bytes = do
  needle ← sought
  Ok (holds_needle bytes needle)

-- the same for a needle that may be a number
abbrev pub contains_of : Needle → List ℕ → Result Bool Fault
contains_of sub bytes = contains_by (needle_bytes sub) bytes

-- the number of matches between two bounds
abbrev pub count_of : Needle → Option ℤ → Option ℤ → List ℕ → Result ℕ Fault
count_of sub start end bytes = do
  needle ← needle_bytes sub
  Ok (number_in_range bytes needle (adjusted start end (length bytes)))

-- the place that a search finds between two bounds
abbrev pub find_of : (List ℕ → List ℕ → Option ℕ) → Needle → Option ℤ → Option ℤ → List ℕ → Result (Option ℕ) Fault
find_of search sub start end bytes = do
  needle ← needle_bytes sub
  Ok (place_in_range search bytes needle (adjusted start end (length bytes)))

-- the place that a search finds for these bytes between two bounds
abbrev pub place_between : (List ℕ → List ℕ → Option ℕ) → List ℕ → Option ℤ → Option ℤ → List ℕ → Option ℕ
place_between search sub start end bytes = place_in_range search bytes sub (adjusted start end (length bytes))

-- the number of their matches there
abbrev pub number_between : List ℕ → Option ℤ → Option ℤ → List ℕ → ℕ
number_between sub start end bytes = number_in_range bytes sub (adjusted start end (length bytes))

-- a search of a closure finds no place past the end of what it is lent
abbrev pub FindsInside : (Bor (List ℕ) → Bor (List ℕ) → Option ℕ → Type 0) → Type 0
FindsInside post = (part : Bor (List ℕ)) (needle : Bor (List ℕ)) (place : ℕ) → post part needle (Some place) → place ≤ length part.now

-- where a closure is a search, the answer is the place that this search finds between two bounds
abbrev pub FindsAsSearch : {E : Type 0} → (Bor (List ℕ) → Bor (List ℕ) → Option ℕ → Type 0) → Needle → Option ℤ → Option ℤ → List ℕ → Result (Outcome (Option ℕ)) E → Type 0
FindsAsSearch post sub start end bytes result =
    (search : List ℕ → List ℕ → Option ℕ) → IsSearch post search → GivesOutcome (find_of search sub start end bytes) result

-- What is found between two bounds, if `answers` says what a search may answer for bytes and a needle. It is a place in
-- the range, or the refusal of the needle, whatever the search may answer.
abbrev pub IsFound : (List ℕ → List ℕ → Option ℕ → Type 0) → Needle → Option ℤ → Option ℤ → List ℕ → Outcome (Option ℕ) → Type 0
IsFound answers sub start end bytes (outcome.Refused f) = needle_bytes sub ≡ Err f
IsFound answers sub start end bytes (outcome.Done place) =
    (needle : List ℕ) × (needle_bytes sub ≡ Ok needle) × IsPlaceInRange answers bytes needle (adjusted start end (length bytes)) place

-- the needle and the range of a search
abbrev pub search_of : Needle → Option ℤ → Option ℤ → ℕ → Result (List ℕ × Range ℕ) Fault
search_of sub start end len = do
  needle ← needle_bytes sub
  Ok (needle, adjusted start end len)

-- an answer, with the bytes of the vector as a list
abbrev pub search_answered : Outcome (Vec ℕ × Range ℕ) → Outcome (List ℕ × Range ℕ)
search_answered (outcome.Done search) = outcome.Done (search.0.items, search.1)
search_answered (outcome.Refused f) = outcome.Refused f

-- ---- cuts

-- the parts between the matches of a separator, or between blanks if there is no separator; an empty separator is
-- refused
abbrev pub split_of : Option (List ℕ) → ℤ → List ℕ → Result (List (List ℕ)) Fault
split_of None most bytes = Ok (blank_parts most bytes)
split_of (Some separator) most bytes = by_separator separator (split_parts most separator bytes)

-- the same, if cuts begin from the right
abbrev pub rsplit_of : Option (List ℕ) → ℤ → List ℕ → Result (List (List ℕ)) Fault
rsplit_of None most bytes = Ok (blank_rparts most bytes)
rsplit_of (Some separator) most bytes = by_separator separator (rsplit_parts most separator bytes)

-- what stands before a match, whether there is one, and what stands behind it; an empty separator is refused
abbrev pub partition_by : List ℕ → List ℕ → Result (List ℕ × Bool × List ℕ) Fault
partition_by separator bytes = by_separator separator (partition_of separator bytes)

abbrev pub rpartition_by : List ℕ → List ℕ → Result (List ℕ × Bool × List ℕ) Fault
rpartition_by separator bytes = by_separator separator (rpartition_of separator bytes)

-- an answer, with the bytes of the vectors as lists
abbrev pub parts_answered : Outcome (Vec ℕ × Bool × Vec ℕ) → Outcome (List ℕ × Bool × List ℕ)
parts_answered (outcome.Done parts) = outcome.Done (parts.0.items, parts.1, parts.2.items)
parts_answered (outcome.Refused f) = outcome.Refused f

-- ---- bytes put together

-- the bytes of a bytes value, or of what a handle names
abbrev pub operand_in : List (ℕ × Snap) → Value → Result (List ℕ) Fault
operand_in pairs (value.One scalar) = bytes_in pairs (value.One scalar)
operand_in pairs _ = Err fault.Kind

abbrev pub concat_of : List (ℕ × Snap) → Value → List ℕ → Result (List ℕ) Fault
concat_of pairs other bytes = do
  operand ← operand_in pairs other
  fitted (bytes ++ operand)

-- the bytes, repeated this many times
abbrev pub repeated_of : ℤ → List ℕ → Result (List ℕ) Fault
repeated_of n bytes = fitted (repeated (times n) bytes)

-- the bytes after a change, or the old ones if the change is refused
abbrev pub or_before : List ℕ → Result (List ℕ) Fault → List ℕ
or_before before (Ok bytes) = bytes
or_before before (Err f) = before
