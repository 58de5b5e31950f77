use Rattle.std.proofs.Common.{[], ◌∷◌, ◌++◌, arith}
use Rattle.pybuf_line.specs.Facts.{lines_counted, few_lines}
use Rattle.pybuf_array_lines.specs.Inputs.{operations_in}
use Rattle.pybuf_array_lines.proofs.NextLines.{next_operation}
use Rattle.pybuf_array_lines.proofs.inputs.check_operations.Goals as goal

pub overflow_add-number : goal.overflow_add-number
overflow_add-number c =
    let more = lines_counted c.loop-line.number c.loop-line.rest.now c.in-Some.line.now c.in-Some.after.now c.args.input.now c.in-Some.ensures c.loop-line.invariant.count in
    let few = few_lines c.args.input.now in
    omega (arith, more, few)

pub loop-line-preserved : goal.loop-line-preserved
loop-line-preserved c = record {
  operations = (
    c.loop-line.invariant.operations.0 ++ c.in-Ok.operation ∷ [],
    next_operation (operations_in c.args.input.now) c.loop-line.invariant.operations.0 c.loop-line.number c.loop-line.rest.now c.in-Some.line.now
        c.in-Some.after.now c.in-Ok.operation c.in-Some.ensures c.in-Ok.ensures c.loop-line.invariant.operations.1,
  );
  count = lines_counted c.loop-line.number c.loop-line.rest.now c.in-Some.line.now c.in-Some.after.now c.args.input.now c.in-Some.ensures c.loop-line.invariant.count;
}
