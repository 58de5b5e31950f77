-- The operation that a line spells. Its first word names it, and arguments follow it with single blanks.
use Rattle.std.specs.Prelude.{ℕ, List, [], ◌∷◌, Option, Some, None}
use Rattle.pybuf_value.specs.Choosing.{◌>>=◌}
use Rattle.pybuf_array.specs.declared.operations.ArrayOp.{ArrayOp}
use Rattle.pybuf_array.specs.declared.operations.ArrayOp.TheVariants as op
use Rattle.pybuf_line.specs.Words.{words}
use Rattle.pybuf_array_lines.specs.declared.words.Word.{Word}
use Rattle.pybuf_array_lines.specs.declared.words.Word.TheVariants as word
use Rattle.pybuf_array_lines.specs.Arguments.{number_of, numbers_of, bytes_of, slice_of, argument_in, view_in}
use Rattle.pybuf_array_lines.specs.Words.{word_in}

-- the operations without arguments
abbrev pub operation_alone : Word → Option ArrayOp
operation_alone word.Pop = Some (op.Pop None)
operation_alone word.Len = Some op.Len
operation_alone word.ToList = Some op.ToList
operation_alone word.ToBytes = Some op.ToBytes
operation_alone word.ByteSwap = Some op.ByteSwap
operation_alone word.View = Some op.View
operation_alone _ = None

-- the operations with one argument
abbrev pub operation_of_one : Word → List ℕ → Option ArrayOp
operation_of_one word.Append value = do
  n ← argument_in number_of value
  Some (op.Append n)
operation_of_one word.Extend values = do
  ns ← argument_in numbers_of values
  Some (op.Extend ns)
operation_of_one word.Pop index = do
  i ← argument_in number_of index
  Some (op.Pop (Some i))
operation_of_one word.Remove value = do
  n ← argument_in number_of value
  Some (op.Remove n)
operation_of_one word.FromBytes bytes = do
  b ← argument_in bytes_of bytes
  Some (op.FromBytes b)
operation_of_one word.Get index = do
  i ← argument_in number_of index
  Some (op.Get i)
operation_of_one word.Release view = do
  k ← view_in view
  Some (op.Release k)
operation_of_one _ _ = None

-- the operations with two arguments
abbrev pub operation_of_two : Word → List ℕ → List ℕ → Option ArrayOp
operation_of_two word.Insert index value = do
  i ← argument_in number_of index
  n ← argument_in number_of value
  Some (op.Insert i n)
operation_of_two word.Set index value = do
  i ← argument_in number_of index
  n ← argument_in number_of value
  Some (op.Set i n)
operation_of_two word.ViewSlice view slice = do
  k ← view_in view
  s ← argument_in slice_of slice
  Some (op.ViewSlice k s)
operation_of_two word.ViewGet view index = do
  k ← view_in view
  i ← argument_in number_of index
  Some (op.ViewGet k i)
operation_of_two _ _ _ = None

-- the operation with three arguments
abbrev pub operation_of_three : Word → List ℕ → List ℕ → List ℕ → Option ArrayOp
operation_of_three word.ViewSet view index value = do
  k ← view_in view
  i ← argument_in number_of index
  n ← argument_in number_of value
  Some (op.ViewSet k i n)
operation_of_three _ _ _ _ = None

-- an operation by its first word and the words behind it
abbrev pub operation_by : Word → List (List ℕ) → Option ArrayOp
operation_by w [] = operation_alone w
operation_by w (first ∷ []) = operation_of_one w first
operation_by w (first ∷ second ∷ []) = operation_of_two w first second
operation_by w (first ∷ second ∷ third ∷ []) = operation_of_three w first second third
operation_by _ _ = None

abbrev pub operation_of_words : List (List ℕ) → Option ArrayOp
operation_of_words [] = None
operation_of_words (first ∷ arguments) = do
  w ← word_in first
  operation_by w arguments

-- the one operation that a line spells, or none
unfoldable pub operation_in : List ℕ → Option ArrayOp
operation_in line = operation_of_words (words line)
