use Rattle.std.proofs.lemmas.Result.{on_err_weaker}
use Rattle.pybuf_lemmas.proofs.Results.{on_ok_follows}
use Rattle.pybuf_histories.specs.Entries.{last_lines}
use Rattle.pybuf_cli.proofs.Entries.{put_behind, front_behind}
use Rattle.pybuf_cli.proofs.sharing.put_last.Goals as goal

pub returns-clause-all : goal.returns-clause-all
returns-clause-all g c =
    on_ok_follows c.write_all.result
    (λ put. put_behind _ _ _ c.args.text.now.items c.new-line.result.items (last_lines c.args.calls c.args.bytes.now) c.push_last_lines.new.out.items
    c.send_reply.new.text.items c.as_slice-2.result.now c.new-line.ensures.items c.in-Ok.ensures c.in_ok-send_reply.ensures.sent
    c.as_slice-2.ensures.value put)
    c.write_all.ensures.all

pub returns-clause-prefix : goal.returns-clause-prefix
returns-clause-prefix g c =
    on_err_weaker c.write_all.result
    (λ front. front_behind _ _ _ c.args.text.now.items c.new-line.result.items (last_lines c.args.calls c.args.bytes.now) c.push_last_lines.new.out.items
    c.send_reply.new.text.items c.as_slice-2.result.now c.new-line.ensures.items c.in-Ok.ensures c.in_ok-send_reply.ensures.sent
    c.as_slice-2.ensures.value front)
    c.write_all.ensures.prefix
