use Rattle.std.proofs.Common.{List, [], ℕ, sym}
use Rattle.std.proofs.lemmas.List.{append-nil}
use Rattle.pybuf_line.specs.Scalars.{handle_in}
use Rattle.pybuf_line.specs.Lines.{commands_in}
use Rattle.pybuf_cli.specs.Program.{due_for}
use Rattle.pybuf_cli.proofs.Sending.{put_front}
use Rattle.pybuf_cli.proofs.serving.run_commands.Goals as goal

pub returns-in-Ok-clause-prefix : goal.returns-in-Ok-clause-prefix
returns-in-Ok-clause-prefix g c =
    let due : List ℕ = due_for (commands_in handle_in c.args.input.now) in
    put_front (g.K.Sink.bytes_held c.args.sink.now) (g.K.Sink.bytes_held c.run_lines.new.sink) due due [] (sym (append-nil due)) c.in-Ok.ensures.all
