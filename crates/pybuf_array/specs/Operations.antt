-- What an array replies to an operation, and to a list of them.
use Rattle.std.specs.Prelude.{◌≡◌, ℕ, ◌<◌, ◌≤◌, Bool, true, false, not, pos, List, [], ◌∷◌, ◌++◌, length, take, slice_get, Option, Some, None, Result, Ok, Err, IsErr}
use Rattle.pybuf_value.specs.declared.faults.Fault.{Fault}
use Rattle.pybuf_value.specs.declared.halt.Halt.{Halt}
use Rattle.pybuf_value.specs.declared.halt.Halt.TheVariants as halt
use Rattle.pybuf_value.specs.Halting.{Settled, SettledAtOnce}
use Rattle.pybuf_numbers.specs.Numbers.{bytes_of}
use Rattle.pybuf_array.specs.declared.operations.ArrayOp.{ArrayOp}
use Rattle.pybuf_array.specs.declared.operations.ArrayOp.TheVariants as op
use Rattle.pybuf_array.specs.declared.operations.ArrayReply.{ArrayReply}
use Rattle.pybuf_array.specs.declared.operations.ArrayReply.TheVariants as reply
use Rattle.pybuf_copy.specs.declared.memory.NoMemory.{NoMemory}
use Rattle.pybuf_array.specs.Array.{Array, ArrayView, appended, extended, inserted, popped, removed, read_from, number_named, put_at, with_swapped, viewed, view_sliced, number_in_view, put_in_view, released_in}

-- what an operation did, with its answer in the form of a reply
abbrev pub replied : {X : Type 0} → (X → ArrayReply) → Result (Array × X) Fault → Result (Array × ArrayReply) Fault
replied form (Ok after) = Ok (after.0, form after.1)
replied form (Err f) = Err f

-- the same for an operation that changes nothing
abbrev pub told : {X : Type 0} → Array → (X → ArrayReply) → Result X Fault → Result (Array × ArrayReply) Fault
told a form (Ok x) = Ok (a, form x)
told a form (Err f) = Err f

abbrev pub done : Unit {0} → ArrayReply
done _ = reply.Ok

-- what an operation does, with its reply, or why it is refused
abbrev pub row_of : Array → ArrayOp → Result (Array × ArrayReply) Fault
row_of a (op.Append value) = replied done (appended a value)
row_of a (op.Extend values) = replied done (extended a values)
row_of a (op.Insert index value) = replied done (inserted a index value)
row_of a (op.Pop index) = replied reply.Number (popped a index)
row_of a (op.Remove value) = replied done (removed a value)
row_of a (op.FromBytes bytes) = replied done (read_from a bytes)
row_of a (op.Get index) = told a reply.Number (number_named a index)
row_of a (op.Set index value) = replied done (put_at a index value)
row_of a op.Len = Ok (a, reply.Number (pos (length a.numbers)))
row_of a op.ToList = Ok (a, reply.Numbers a.numbers)
row_of a op.ToBytes = Ok (a, reply.Bytes (bytes_of a.code a.numbers))
row_of a op.ByteSwap = Ok (with_swapped a, reply.Ok)
row_of a op.View = replied reply.View (Ok (viewed a))
row_of a (op.ViewSlice view slice) = replied reply.View (view_sliced a view slice)
row_of a (op.ViewGet view index) = told a reply.Number (number_in_view a view index)
row_of a (op.ViewSet view index value) = replied done (put_in_view a view index value)
row_of a (op.Release view) = replied done (released_in a view)

-- A refusal is a reply, and leaves the array as it is.
abbrev pub settled : Array → Result (Array × ArrayReply) Fault → Array × ArrayReply
settled a (Ok after) = after
settled a (Err f) = (a, reply.Refused f)

-- the array after one operation, and the reply
abbrev pub astep : Array → ArrayOp → Array × ArrayReply
astep a o = settled a (row_of a o)

-- the array after a list of operations
abbrev pub array_after_all : Array → List ArrayOp → Array
array_after_all a [] = a
array_after_all a (o ∷ ops) = array_after_all (astep a o).0 ops

-- the replies to a list of operations, in order
abbrev pub replies_of : Array → List ArrayOp → List ArrayReply
replies_of a [] = []
replies_of a (o ∷ ops) = (astep a o).1 ∷ replies_of (astep a o).0 ops

-- Memory ran out: the array and the replies are those after the first k operations, and k isn't all.
abbrev pub StopsAt : Array → List ArrayOp → Array → List ArrayReply → List ArrayReply → Type 0
StopsAt old ops new replies_before replies =
    (k : ℕ) × (k < length ops) × (new ≡ array_after_all old (take k ops)) × (replies ≡ replies_before ++ replies_of old (take k ops))

-- whether a view was made and is unreleased
abbrev pub is_out : Option ArrayView → Bool
is_out (Some v) = not v.released
is_out None = false

-- The view that has this number is unreleased.
abbrev pub IsOut : Array → ℕ → Type 0
IsOut a k = is_out (slice_get a.views k) ≡ true

-- Two moments of a run are compared. If a view that was made by the first moment is unreleased at the second,
-- the array has as many numbers at both.
abbrev pub KeepsLengthWhileViewed : Array → List ArrayOp → Type 0
KeepsLengthWhileViewed a ops =
    (m n k : ℕ) → m ≤ n → k < length (array_after_all a (take m ops)).views → IsOut (array_after_all a (take n ops)) k
    → length (array_after_all a (take n ops)).numbers ≡ length (array_after_all a (take m ops)).numbers

-- ---- answers of calls

-- The answer is what a definition says, and the array is the one that it says. If the definition refuses, the
-- answer is that refusal. If it refuses or memory runs out, the array is as before.
abbrev pub Settles : {X : Type 0} → Result (Array × X) Fault → Array → Result X Halt → Array → Type 0
Settles wanted old result new = Settled result (λ x. (new, x)) (new ≡ old) (new ≡ old) wanted

-- the same for a call that takes no memory
abbrev pub SettlesAtOnce : {X : Type 0} → Result (Array × X) Fault → Array → Result X Fault → Array → Type 0
SettlesAtOnce wanted old result new = SettledAtOnce result (λ x. (new, x)) (new ≡ old) wanted

-- an answer as a reply, unless memory ran out
abbrev pub Closes : Result ArrayReply Halt → Result ArrayReply NoMemory → Type 0
Closes (Ok r) result = result ≡ Ok r
Closes (Err (halt.Refused f)) result = result ≡ Ok (reply.Refused f)
Closes (Err halt.NoMemory) result = IsErr result
