-- Methods that search in bytes.
use Rattle.std.specs.Prelude.{ℕ, ℤ, pos, negsuc, Bool, List, length, Option, Some, None, Result, Ok, Err}
use Rattle.pybuf_value.specs.declared.faults.Fault.{Fault}
use Rattle.pybuf_value.specs.declared.faults.Fault.TheVariants as fault
use Rattle.pybuf_value.specs.declared.snaps.Snap.{Snap}
use Rattle.pybuf_value.specs.declared.values.Value.{Value}
use Rattle.pybuf_value.specs.Refusing.{◌>>=◌}
use Rattle.pybuf_search.specs.Affixes.{startswith_of, endswith_of}
use Rattle.pybuf_search.specs.Bounds.{adjusted}
use Rattle.pybuf_search.specs.Ranges.{place_in_range, number_in_range}
use Rattle.pybuf_bytes.specs.Needles.{needle_in, needle_bytes}
use Rattle.pybuf_bytes.specs.Searching.{contains_by}
use Rattle.pybuf_bytes.specs.declared.methods.MethodReply.{MethodReply}
use Rattle.pybuf_bytes.specs.declared.methods.MethodReply.TheVariants as reply
use Rattle.pybuf_methods.specs.Given.{one_to_three, bound_given}

-- the bytes that a value asks to search for
abbrev pub sought_in : List (ℕ × Snap) → Value → Result (List ℕ) Fault
sought_in pairs v = do
  sub ← needle_in pairs v
  needle_bytes sub

-- whether the bytes that a value asks for stand anywhere
abbrev pub contains_in : List (ℕ × Snap) → List ℕ → Value → Result Bool Fault
contains_in pairs bytes v = contains_by (sought_in pairs v) bytes

-- the place that a search finds between the bounds
abbrev pub place : (List ℕ → List ℕ → Option ℕ) → List (ℕ × Snap) → List ℕ → List Value → Result (Option ℕ) Fault
place search pairs bytes args = do
  given ← one_to_three args
  needle ← sought_in pairs given.0
  start ← bound_given given.1
  end ← bound_given given.2
  Ok (place_in_range search bytes needle (adjusted start end (length bytes)))

-- a place as a number, which is -1 if nothing was found
abbrev pub number_of_place : Option ℕ → ℤ
number_of_place None = negsuc 0
number_of_place (Some place) = pos place

abbrev pub find : (List ℕ → List ℕ → Option ℕ) → List (ℕ × Snap) → List ℕ → List Value → Result MethodReply Fault
find search pairs bytes args = do
  found ← place search pairs bytes args
  Ok (reply.Number (number_of_place found))

-- the place that was found; if nothing was found, the call is refused with `ValueError`
abbrev pub found_place : Option ℕ → Result MethodReply Fault
found_place None = Err fault.Value
found_place (Some place) = Ok (reply.Number (pos place))

abbrev pub index : (List ℕ → List ℕ → Option ℕ) → List (ℕ × Snap) → List ℕ → List Value → Result MethodReply Fault
index search pairs bytes args = do
  found ← place search pairs bytes args
  found_place found

abbrev pub count : List (ℕ × Snap) → List ℕ → List Value → Result MethodReply Fault
count pairs bytes args = do
  given ← one_to_three args
  needle ← sought_in pairs given.0
  start ← bound_given given.1
  end ← bound_given given.2
  Ok (reply.Number (pos (number_in_range bytes needle (adjusted start end (length bytes)))))

-- an affix, which isn't read yet, and two bounds
abbrev pub affix_given : List Value → Result (Value × Option ℤ × Option ℤ) Fault
affix_given args = do
  given ← one_to_three args
  start ← bound_given given.1
  end ← bound_given given.2
  Ok (given.0, start, end)

abbrev pub startswith : List (ℕ × Snap) → List ℕ → List Value → Result MethodReply Fault
startswith pairs bytes args = do
  given ← affix_given args
  answer ← startswith_of pairs given.0 given.1 given.2 bytes
  Ok (reply.Truth answer)

abbrev pub endswith : List (ℕ × Snap) → List ℕ → List Value → Result MethodReply Fault
endswith pairs bytes args = do
  given ← affix_given args
  answer ← endswith_of pairs given.0 given.1 given.2 bytes
  Ok (reply.Truth answer)
