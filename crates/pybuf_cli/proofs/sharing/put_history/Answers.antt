use Rattle.std.proofs.lemmas.Result.{on_err_weaker}
use Rattle.pybuf_lemmas.proofs.Results.{on_ok_follows}
use Rattle.pybuf_cli.proofs.Entries.{history_put, history_front}
use Rattle.pybuf_cli.proofs.sharing.put_history.Goals as goal

pub returns-clause-all : goal.returns-clause-all
returns-clause-all g c =
    on_ok_follows c.put_last.result
    (λ put. history_put _ _ _ c.args.joined.now.entries c.as_slice-entries.result.now c.args.joined.now.state.exporter c.bytes.result.now
    c.in_ok-text.text.items c.as_slice-entries.ensures c.bytes.ensures c.in_ok-text.ensures.sent put)
    c.put_last.ensures.all

pub returns-clause-prefix : goal.returns-clause-prefix
returns-clause-prefix g c =
    on_err_weaker c.put_last.result
    (λ front. history_front _ _ _ c.args.joined.now.entries c.as_slice-entries.result.now c.args.joined.now.state.exporter c.bytes.result.now
    c.in_ok-text.text.items c.as_slice-entries.ensures c.bytes.ensures c.in_ok-text.ensures.sent front)
    c.put_last.ensures.prefix
