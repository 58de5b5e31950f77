-- Methods that cut bytes.
use Rattle.std.specs.Prelude.{ℕ, ℤ, negsuc, Bool, List, Option, Result, Ok}
use Rattle.pybuf_value.specs.declared.faults.Fault.{Fault}
use Rattle.pybuf_value.specs.declared.snaps.Snap.{Snap}
use Rattle.pybuf_value.specs.declared.values.Value.{Value}
use Rattle.pybuf_value.specs.Refusing.{◌>>=◌}
use Rattle.pybuf_value.specs.Numbers.{count_or}
use Rattle.pybuf_value.specs.Snaps.{bytes_in}
use Rattle.pybuf_search.specs.Parts.{partition_parts, rpartition_parts}
use Rattle.pybuf_search.specs.Separators.{by_separator}
use Rattle.pybuf_letters.specs.Strips.{goes}
use Rattle.pybuf_letters.specs.Lines.{split_lines}
use Rattle.pybuf_bytes.specs.declared.methods.MethodReply.{MethodReply}
use Rattle.pybuf_bytes.specs.declared.methods.MethodReply.TheVariants as reply
use Rattle.pybuf_methods.specs.Given.{one, at_most_one, at_most_two, flag_given, bytes_given}

-- the bytes without those of a set, or without blanks, at one end or both
abbrev pub strip : ((ℕ → Bool) → List ℕ → List ℕ) → List (ℕ × Snap) → List ℕ → List Value → Result MethodReply Fault
strip side pairs bytes args = do
  given ← at_most_one args
  chars ← bytes_given pairs given
  Ok (reply.Bytes (side (goes chars) bytes))

-- the bytes without a prefix or a suffix
abbrev pub remove : (List ℕ → List ℕ → List ℕ) → List (ℕ × Snap) → List ℕ → List Value → Result MethodReply Fault
remove without pairs bytes args = do
  given ← one args
  affix ← bytes_in pairs given
  Ok (reply.Bytes (without bytes affix))

-- the parts, cut from the left or from the right; if no number of cuts is given, there may be any number
abbrev pub split : (Option (List ℕ) → ℤ → List ℕ → Result (List (List ℕ)) Fault) → List (ℕ × Snap) → List ℕ → List Value → Result MethodReply Fault
split parts_by pairs bytes args = do
  given ← at_most_two args
  separator ← bytes_given pairs given.0
  most ← count_or (negsuc 0) given.1
  parts ← parts_by separator most bytes
  Ok (reply.ByteLists parts)

-- the three parts in order; an empty separator is refused
abbrev pub partition : List (ℕ × Snap) → List ℕ → List Value → Result MethodReply Fault
partition pairs bytes args = do
  given ← one args
  separator ← bytes_in pairs given
  parts ← by_separator separator (partition_parts separator bytes)
  Ok (reply.ByteLists parts)

abbrev pub rpartition : List (ℕ × Snap) → List ℕ → List Value → Result MethodReply Fault
rpartition pairs bytes args = do
  given ← one args
  separator ← bytes_in pairs given
  parts ← by_separator separator (rpartition_parts separator bytes)
  Ok (reply.ByteLists parts)

abbrev pub splitlines : List ℕ → List Value → Result MethodReply Fault
splitlines bytes args = do
  given ← at_most_one args
  keep ← flag_given given
  Ok (reply.ByteLists (split_lines keep bytes))
