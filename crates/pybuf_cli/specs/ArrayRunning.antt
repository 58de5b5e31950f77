-- What one line does to an array, and to the text that is written.
use Rattle.std.specs.Prelude.{◌≡◌, ℕ, List, ◌++◌, Some, Ok}
use Rattle.pybuf_array.specs.declared.operations.ArrayOp.{ArrayOp}
use Rattle.pybuf_array.specs.Array.{Array}
use Rattle.pybuf_array.specs.Operations.{astep}
use Rattle.pybuf_array_lines.specs.Operations.{operation_in}
use Rattle.pybuf_array_lines.specs.Inputs.{operations_in}
use Rattle.pybuf_array_lines.specs.Replies.{array_reply_line}

-- The line is an operation.
abbrev pub IsOperation : List ℕ → Type 0
IsOperation line = (o : ArrayOp) × (operation_in line ≡ Some o)

-- Each line of the input is an operation.
abbrev pub AreOperations : List ℕ → Type 0
AreOperations input = (operations : List ArrayOp) × (operations_in input ≡ Ok operations)

-- The array made a step by an operation, and the line of its reply was added to the text.
abbrev pub IsCarriedOut : Array → ArrayOp → List ℕ → Array → List ℕ → Type 0
IsCarriedOut old o text new longer = (new ≡ (astep old o).0) × (longer ≡ text ++ array_reply_line (astep old o).1)

-- This holds for the operation of the line.
abbrev pub IsAnswered : Array → List ℕ → List ℕ → Array → List ℕ → Type 0
IsAnswered old line text new longer = (o : ArrayOp) → operation_in line ≡ Some o → IsCarriedOut old o text new longer
