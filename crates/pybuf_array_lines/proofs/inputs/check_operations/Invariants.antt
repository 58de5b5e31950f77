use Rattle.std.proofs.Common.{◌≡◌, ◌+◌, List, length}
use Rattle.pybuf_array.specs.declared.operations.ArrayOp.{ArrayOp}
use Rattle.pybuf_line.specs.Lines.{lines}
use Rattle.pybuf_array_lines.specs.Inputs.{operations_in, operations_from}
use Rattle.pybuf_array_lines.proofs.NextLines.{onto}
use Rattle.pybuf_array_lines.proofs.inputs.check_operations.Given as goal

-- The lines so far are operations, and as many lines were read.
pub record Checked (Operations Count : Type 0) : Type 0 where
  pub operations : Operations
  pub count : Count

abbrev pub invariant-loop-line : goal.invariant-loop-line
invariant-loop-line l =
    Checked
    ((operations : List ArrayOp) × (operations_in l.input ≡ onto operations (operations_from (l.number + 1) (lines l.rest))))
    (l.number + length (lines l.rest) ≡ length (lines l.input))

abbrev pub decreases-loop-line : goal.decreases-loop-line
decreases-loop-line l = length (lines l.rest)
