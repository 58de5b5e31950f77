use Rattle.std.proofs.lemmas.Result.{on_err_weaker}
use Rattle.pybuf_lemmas.proofs.Results.{on_ok_follows}
use Rattle.pybuf_cli.proofs.Outcomes.{on_err}
use Rattle.pybuf_cli.proofs.Sending.{sends_all, sends_same, front_same, front_of_both, first_and_front}
use Rattle.pybuf_cli.proofs.putting.send_reply.Goals as goal

pub returns-then-joins-clause-sent : goal.returns-then-joins-clause-sent
returns-then-joins-clause-sent g c =
    on_ok_follows c.send_long.result (λ sent. sends_same _ _ _ _ _ (c.joins.ensures.text c.if-joins.true) sent) c.send_long.ensures.sent

pub returns-then-joins-clause-prefix : goal.returns-then-joins-clause-prefix
returns-then-joins-clause-prefix g c =
    on_err_weaker c.send_long.result (λ front. front_same _ _ _ _ (c.joins.ensures.text c.if-joins.true) front) c.send_long.ensures.prefix

pub returns-in_err-send-clause-prefix : goal.returns-in_err-send-clause-prefix
returns-in_err-send-clause-prefix g c =
    on_err c.from_residual.result
    (front_of_both _ _ _ c.args.reply.now.items _ (c.joins.ensures.text_apart c.if-joins.false) c.in_err-send.ensures.prefix)

pub returns-clause-sent : goal.returns-clause-sent
returns-clause-sent g c =
    on_ok_follows c.send-2.result
    (λ put. sends_all _ _ _ _ _ _ _ _ (c.joins.ensures.text_apart c.if-joins.false) (c.joins.ensures.reply_apart c.if-joins.false)
    c.in_ok-send.ensures.put put c.in_ok-send.ensures.empty)
    c.send-2.ensures.put

pub returns-clause-prefix : goal.returns-clause-prefix
returns-clause-prefix g c =
    on_err_weaker c.send-2.result
    (λ front. first_and_front _ _ _ _ _ _ _ (c.joins.ensures.text_apart c.if-joins.false) (c.joins.ensures.reply_apart c.if-joins.false)
    c.in_ok-send.ensures.put front)
    c.send-2.ensures.prefix
