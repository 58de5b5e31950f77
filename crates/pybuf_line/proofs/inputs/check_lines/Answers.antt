use Rattle.std.proofs.Common.{[], ◌∷◌, ◌++◌, arith}
use Rattle.pybuf_line.specs.Facts.{lines_counted, few_lines}
use Rattle.pybuf_line.specs.Scalars.{handle_in}
use Rattle.pybuf_line.specs.Lines.{commands_in}
use Rattle.pybuf_line.proofs.Commands.{next_command}
use Rattle.pybuf_line.proofs.inputs.check_lines.Goals as goal

pub overflow_add-number : goal.overflow_add-number
overflow_add-number c =
    let more = lines_counted c.loop-line.number c.loop-line.rest.now c.in-Some.line.now c.in-Some.after.now c.args.input.now c.in-Some.ensures c.loop-line.invariant.count in
    let few = few_lines c.args.input.now in
    omega (arith, more, few)

pub loop-line-preserved : goal.loop-line-preserved
loop-line-preserved c = record {
  commands = (
    c.loop-line.invariant.commands.0 ++ c.in-Ok.command ∷ [],
    next_command (commands_in handle_in c.args.input.now) c.loop-line.invariant.commands.0 c.loop-line.number c.loop-line.rest.now c.in-Some.line.now
        c.in-Some.after.now c.in-Ok.command c.in-Some.ensures c.in-Ok.ensures c.loop-line.invariant.commands.1,
  );
  count = lines_counted c.loop-line.number c.loop-line.rest.now c.in-Some.line.now c.in-Some.after.now c.args.input.now c.in-Some.ensures c.loop-line.invariant.count;
}
