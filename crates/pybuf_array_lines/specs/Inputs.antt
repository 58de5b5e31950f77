-- The operations of the lines of an input.
use Rattle.std.specs.Prelude.{◌≡◌, ℕ, ◌+◌, List, [], ◌∷◌, Option, Some, None, Result, Ok, Err}
use Rattle.pybuf_array.specs.declared.operations.ArrayOp.{ArrayOp}
use Rattle.pybuf_line.specs.declared.unread.Misread.{Misread}
use Rattle.pybuf_line.specs.declared.unread.Misread.TheVariants as misread
use Rattle.pybuf_line.specs.Lines.{lines}
use Rattle.pybuf_array_lines.specs.Operations.{operation_in}

-- The operations with one more before them, or the number of the line if that is no operation.
abbrev pub operation_before : ℕ → Option ArrayOp → Result (List ArrayOp) ℕ → Result (List ArrayOp) ℕ
operation_before n None rest = Err n
operation_before n (Some o) (Ok rest) = Ok (o ∷ rest)
operation_before n (Some o) (Err m) = Err m

-- the operations of lines that are counted from n on, or the number of the first that is no operation
abbrev pub operations_from : ℕ → List (List ℕ) → Result (List ArrayOp) ℕ
operations_from n [] = Ok []
operations_from n (line ∷ rest) = operation_before n (operation_in line) (operations_from (n + 1) rest)

-- the operations of an input, line by line, or the number of the first line that is no operation
abbrev pub operations_in : List ℕ → Result (List ArrayOp) ℕ
operations_in input = operations_from 1 (lines input)

-- Whether all lines of an input are operations. If one isn't, the number of the first such line is told. Memory
-- may run out.
abbrev pub ChecksAll : {X : Type 0} → Result X Misread → Result (List ArrayOp) ℕ → Type 0
ChecksAll (Ok x) read = (operations : List ArrayOp) × (read ≡ Ok operations)
ChecksAll (Err (misread.BadLine n)) read = read ≡ Err n
ChecksAll (Err misread.NoMemory) read = Unit {0}
