use Rattle.pybuf_lemmas.proofs.Results.{on_ok_follows}
use Rattle.pybuf_cli.proofs.Running.{carried_out}
use Rattle.pybuf_cli.proofs.writing.answer_command.Goals as goal

pub returns-in-Ok : goal.returns-in-Ok
returns-in-Ok c =
    on_ok_follows c.push_reply_line.result
    (carried_out c.args.world.now c.step.new.self c.args.command.now c.in-Ok.reply c.args.text.now.items c.push_reply_line.new.out.items
    c.in-Ok.ensures.ok)
    c.push_reply_line.ensures
