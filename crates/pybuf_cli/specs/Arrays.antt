-- What the program does with the operations of an array.
use Rattle.std.specs.Prelude.{◌≡◌, ℕ, ◌≤◌, List, [], length, nat_lt, Option, Some, Result, Ok, Err, if◌then◌else◌}
use Rattle.pybuf_numbers.specs.declared.codes.ArrayCode.{ArrayCode}
use Rattle.pybuf_array.specs.declared.operations.ArrayOp.{ArrayOp}
use Rattle.pybuf_array.specs.Array.{new_array}
use Rattle.pybuf_array.specs.Operations.{replies_of, KeepsLengthWhileViewed}
use Rattle.pybuf_array_lines.specs.Inputs.{operations_in}
use Rattle.pybuf_array_lines.specs.Replies.{array_reply_lines}
use Rattle.pybuf_line.specs.Replies.{bad_line_text}
use Rattle.pybuf_cli.specs.declared.status.Status.{Status}
use Rattle.pybuf_cli.specs.declared.status.Status.TheVariants as status
use Rattle.pybuf_cli.specs.Devices.{Put}
use Rattle.pybuf_cli.specs.Program.{most, ending_for, ReadsInput, Ended}

-- a line for each reply of an array that begins without numbers
abbrev pub array_program : ArrayCode → List ArrayOp → List ℕ
array_program c operations = array_reply_lines (replies_of (new_array c) operations)

-- the text that is due for the lines of an input: that of the replies, or that of a line that is no operation
abbrev pub array_due_for : ArrayCode → Result (List ArrayOp) ℕ → List ℕ
array_due_for c (Ok operations) = array_program c operations
array_due_for c (Err n) = bad_line_text n

-- so it is of the lines of an input
abbrev pub array_due : ArrayCode → List ℕ → List ℕ
array_due c input = array_due_for c (operations_in input)

-- the text that is due for a run of an input, or no text if the input is too long
abbrev pub array_run_text : ArrayCode → List ℕ → List ℕ
array_run_text c input = if nat_lt most (length input) then [] else array_due_for c (operations_in input)

-- how a run of an input ends, if memory suffices and neither the source nor the sink fails
abbrev pub array_run_ending : List ℕ → Status
array_run_ending input = if nat_lt most (length input) then status.TooLong else ending_for (operations_in input)

-- All of the input was read, each of its lines is an operation, and just the text of the replies was put. Any
-- two moments of the run are compared: if a view that was made by the first is unreleased at the second, the
-- array has as many numbers at both.
pub record IsDoneArray (c : ArrayCode) (input : List ℕ) (left held_before held : Option (List ℕ)) : Type 0 where
  pub all_read : left ≡ Some []
  pub short : length input ≤ most
  pub operations : List ArrayOp
  pub spelled : operations_in input ≡ Ok operations
  pub sound : KeepsLengthWhileViewed (new_array c) operations
  pub put : Put held_before (array_program c operations) held

-- All of the input was read, a line of it is the first that is no operation, and just the text that tells its
-- number was put.
pub record IsBadLineArray (input : List ℕ) (left held_before held : Option (List ℕ)) : Type 0 where
  pub all_read : left ≡ Some []
  pub short : length input ≤ most
  pub line : ℕ
  pub first : operations_in input ≡ Err line
  pub put : Put held_before (bad_line_text line) held

-- The replies to the lines of an input were put, each of which is an operation.
abbrev pub ArrayRepliesPut : {K : Type 0} → ArrayCode → List ℕ → (K → Option (List ℕ)) → K → K → Type 0
ArrayRepliesPut c input bytes_held old new =
    (operations : List ArrayOp) × (operations_in input ≡ Ok operations) × KeepsLengthWhileViewed (new_array c) operations ×
    Put (bytes_held old) (array_program c operations) (bytes_held new)

-- What the form `array` with a code promises, if the source tells its bytes.
pub record RunsArray {S K : Type 0} (c : ArrayCode) (result : Status) (bytes_left : S → Option (List ℕ)) (bytes_held : K → Option (List ℕ))
    (source_before source : S) (sink_before sink : K) : Type 0 where
  pub reads : ReadsInput result bytes_left source_before source sink_before sink
  pub done : result ≡ status.Done → Ended (IsDoneArray c) bytes_left source_before source bytes_held sink_before sink
  pub bad_line : result ≡ status.BadLine → Ended IsBadLineArray bytes_left source_before source bytes_held sink_before sink
