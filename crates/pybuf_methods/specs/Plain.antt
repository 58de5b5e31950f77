-- Methods that ask for a class of bytes or change letter cases, and methods that add bytes or repeat them.
use Rattle.std.specs.Prelude.{ℕ, Bool, List, ◌++◌, Result, Ok}
use Rattle.bstr.specs.Owned.{joined}
use Rattle.pybuf_value.specs.declared.faults.Fault.{Fault}
use Rattle.pybuf_value.specs.declared.snaps.Snap.{Snap}
use Rattle.pybuf_value.specs.declared.values.Value.{Value}
use Rattle.pybuf_value.specs.Refusing.{◌>>=◌}
use Rattle.pybuf_value.specs.Numbers.{count_in}
use Rattle.pybuf_value.specs.Snaps.{like_in}
use Rattle.pybuf_value.specs.Texts.{fitted}
use Rattle.pybuf_bytes.specs.Searching.{concat_of, repeated_of}
use Rattle.pybuf_bytes.specs.declared.methods.MethodReply.{MethodReply}
use Rattle.pybuf_bytes.specs.declared.methods.MethodReply.TheVariants as reply
use Rattle.pybuf_methods.specs.Given.{none, one, lists_in}

-- what a method without arguments answers; it refuses any argument
abbrev pub truth : Bool → List Value → Result MethodReply Fault
truth answer args = do
  _ ← none args
  Ok (reply.Truth answer)

abbrev pub changed : List ℕ → List Value → Result MethodReply Fault
changed bytes args = do
  _ ← none args
  Ok (reply.Bytes bytes)

abbrev pub add : List (ℕ × Snap) → List ℕ → List Value → Result MethodReply Fault
add pairs bytes args = do
  other ← one args
  like ← like_in pairs other
  sum ← fitted (bytes ++ like)
  Ok (reply.Bytes sum)

abbrev pub concat : List (ℕ × Snap) → List ℕ → List Value → Result MethodReply Fault
concat pairs bytes args = do
  other ← one args
  sum ← concat_of pairs other bytes
  Ok (reply.Bytes sum)

abbrev pub mul : List ℕ → List Value → Result MethodReply Fault
mul bytes args = do
  times ← one args
  n ← count_in times
  product ← repeated_of n bytes
  Ok (reply.Bytes product)

abbrev pub join : List (ℕ × Snap) → List ℕ → List Value → Result MethodReply Fault
join pairs bytes args = do
  list ← one args
  parts ← lists_in pairs list
  whole ← fitted (joined bytes parts)
  Ok (reply.Bytes whole)
