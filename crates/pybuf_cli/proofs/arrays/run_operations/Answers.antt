use Rattle.pybuf_array_lines.specs.Inputs.{operations_in}
use Rattle.pybuf_cli.specs.Arrays.{array_due_for}
use Rattle.pybuf_cli.proofs.Sending.{put_whole}
use Rattle.pybuf_cli.proofs.arrays.run_operations.Goals as goal

pub returns-in-Ok-clause-prefix : goal.returns-in-Ok-clause-prefix
returns-in-Ok-clause-prefix g c =
    put_whole (g.K.Sink.bytes_held c.args.sink.now) (g.K.Sink.bytes_held c.run_lines.new.sink) (array_due_for c.args.code (operations_in c.args.input.now))
    c.in-Ok.ensures.all
