-- Laws of the lines of arrays, and of the texts of their replies.
use Rattle.std.specs.Prelude.{◌≡◌, ℕ, ◌+◌, ◌^◌, ◌<◌, ℤ, List, [], ◌∷◌, ◌++◌, length, map, decimal, Option, Some, None, Ok, Err}
use Rattle.std.specs.List.{join_with_byte, AllByRecursion}
use Rattle.std.specs.Str.{byte}
use Rattle.hex.specs.Hex.{IsBytes}
use Rattle.pybuf_value.specs.declared.values.Scalar.TheVariants as scalar
use Rattle.pybuf_value.specs.declared.values.Value.TheVariants as value
use Rattle.pybuf_value.specs.Spelling.{handle_text}
use Rattle.pybuf_array.specs.declared.operations.ArrayOp.{ArrayOp}
use Rattle.pybuf_array.specs.declared.operations.ArrayOp.TheVariants as op
use Rattle.pybuf_array.specs.declared.operations.ArrayReply.{ArrayReply}
use Rattle.pybuf_line.specs.Lines.{lines}
use Rattle.pybuf_line.specs.Laws.{IsOneLine, Is128Bits, IsSpelledSlice}
use Rattle.pybuf_line.specs.Spellings.{written_value}
use Rattle.pybuf_array_lines.specs.declared.words.Word.TheVariants as word
use Rattle.pybuf_array_lines.specs.Words.{written_word}
use Rattle.pybuf_array_lines.specs.Operations.{operation_in}
use Rattle.pybuf_array_lines.specs.Inputs.{operations_in}
use Rattle.pybuf_array_lines.specs.Replies.{array_reply_text}

-- The text of each reply has no line feed.
abbrev pub ArrayRepliesAreSingle : Type 0
ArrayRepliesAreSingle = (r : ArrayReply) → IsOneLine (array_reply_text r)

-- The operations of an input are those of its lines.
abbrev pub OperationsAreOfLines : Type 0
OperationsAreOfLines = (input : List ℕ) (operations : List ArrayOp) → operations_in input ≡ Ok operations →
    map operation_in (lines input) ≡ map Some operations

-- The line whose number is told is no operation, and all lines before it are.
abbrev pub BadLineIsFirst : Type 0
BadLineIsFirst = (input : List ℕ) (n : ℕ) → operations_in input ≡ Err n →
    (before : List ArrayOp) × (rest : List (Option ArrayOp))
    × (map operation_in (lines input) ≡ map Some before ++ None ∷ rest) × (n ≡ length before + 1)

-- ---- how operations are written

-- how the arguments are written, as values
abbrev pub written_number : ℤ → List ℕ
written_number n = written_value handle_text (value.One (scalar.Int n))

abbrev pub written_numbers : List ℤ → List ℕ
written_numbers numbers = written_value handle_text (value.List (map scalar.Int numbers))

abbrev pub written_bytes : List ℕ → List ℕ
written_bytes bytes = written_value handle_text (value.One (scalar.Bytes bytes))

-- the words of an operation
abbrev pub written_words : ArrayOp → List (List ℕ)
written_words (op.Append value) = written_word word.Append ∷ written_number value ∷ []
written_words (op.Extend values) = written_word word.Extend ∷ written_numbers values ∷ []
written_words (op.Insert index value) = written_word word.Insert ∷ written_number index ∷ written_number value ∷ []
written_words (op.Pop None) = written_word word.Pop ∷ []
written_words (op.Pop (Some index)) = written_word word.Pop ∷ written_number index ∷ []
written_words (op.Remove value) = written_word word.Remove ∷ written_number value ∷ []
written_words (op.FromBytes bytes) = written_word word.FromBytes ∷ written_bytes bytes ∷ []
written_words (op.Get index) = written_word word.Get ∷ written_number index ∷ []
written_words (op.Set index value) = written_word word.Set ∷ written_number index ∷ written_number value ∷ []
written_words op.Len = written_word word.Len ∷ []
written_words op.ToList = written_word word.ToList ∷ []
written_words op.ToBytes = written_word word.ToBytes ∷ []
written_words op.ByteSwap = written_word word.ByteSwap ∷ []
written_words op.View = written_word word.View ∷ []
written_words (op.ViewSlice view slice) = written_word word.ViewSlice ∷ decimal view ∷ written_value handle_text (value.Slice slice) ∷ []
written_words (op.ViewGet view index) = written_word word.ViewGet ∷ decimal view ∷ written_number index ∷ []
written_words (op.ViewSet view index value) = written_word word.ViewSet ∷ decimal view ∷ written_number index ∷ written_number value ∷ []
written_words (op.Release view) = written_word word.Release ∷ decimal view ∷ []

abbrev pub written_operation : ArrayOp → List ℕ
written_operation o = join_with_byte (byte " ") (written_words o)

-- the operations that lines spell: their numbers have 128 bits, and the numbers of their views are below 2^64
abbrev pub IsSpelledOperation : ArrayOp → Type 0
IsSpelledOperation (op.Append value) = Is128Bits value
IsSpelledOperation (op.Extend values) = AllByRecursion Is128Bits values
IsSpelledOperation (op.Insert index value) = Is128Bits index × Is128Bits value
IsSpelledOperation (op.Pop (Some index)) = Is128Bits index
IsSpelledOperation (op.Remove value) = Is128Bits value
IsSpelledOperation (op.FromBytes bytes) = IsBytes bytes
IsSpelledOperation (op.Get index) = Is128Bits index
IsSpelledOperation (op.Set index value) = Is128Bits index × Is128Bits value
IsSpelledOperation (op.ViewSlice view slice) = (view < 2 ^ 64) × IsSpelledSlice slice
IsSpelledOperation (op.ViewGet view index) = (view < 2 ^ 64) × Is128Bits index
IsSpelledOperation (op.ViewSet view index value) = (view < 2 ^ 64) × Is128Bits index × Is128Bits value
IsSpelledOperation (op.Release view) = view < 2 ^ 64
IsSpelledOperation _ = Unit {0}

-- An operation that was written is read back.
abbrev pub OperationsReadBack : Type 0
OperationsReadBack = (o : ArrayOp) → IsSpelledOperation o → operation_in (written_operation o) ≡ Some o
