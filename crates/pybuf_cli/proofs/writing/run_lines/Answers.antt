use Rattle.std.proofs.Common.{◌++◌, arith}
use Rattle.pybuf_cli.proofs.Outcomes.{on_err}
use Rattle.std.proofs.lemmas.Result.{on_err_weaker}
use Rattle.pybuf_lemmas.proofs.Results.{on_ok_follows}
use Rattle.pybuf_cli.proofs.Running.{spelled_first, answered_behind, goes_on, stops_before, stops_behind, ends_put, stops_at_end}
use Rattle.pybuf_cli.proofs.writing.run_lines.Goals as goal

pub answer_line-requires : goal.answer_line-requires
answer_line-requires g c =
    spelled_first c.args.input.now c.running.rest.now c.in-Some.line.now c.in-Some.after.now c.running.world _ _ _ c.running.invariant.lines
    c.in-Some.ensures

pub returns-in_default-answer_line-clause-prefix : goal.returns-in_default-answer_line-clause-prefix
returns-in_default-answer_line-clause-prefix g c =
    stops_before c.args.input.now c.running.rest.now c.running.world _ _ _ c.running.text.items c.as_slice.result.now c.running.invariant.lines
    c.as_slice.ensures.value c.send_front.ensures.prefix

pub returns-in_err-send_reply-clause-prefix : goal.returns-in_err-send_reply-clause-prefix
returns-in_err-send_reply-clause-prefix g c =
    on_err c.from_residual.result
    (stops_behind c.args.input.now c.running.rest.now c.in-Some.line.now c.in-Some.after.now c.running.world c.answer_line.new.world _ _ _
    c.running.text.items (c.running.text.items ++ c.answer_line.new.text.items) c.running.invariant.lines c.in-Some.ensures
    (answered_behind c.running.world c.answer_line.new.world c.in-Some.line.now c.running.text.items c.running.reply.items
    c.answer_line.new.text.items c.running.invariant.apart c.in-Ok.ensures)
    c.in_err-send_reply.ensures.prefix)

pub running-preserved : goal.running-preserved
running-preserved g c = record {
  lines = goes_on c.args.input.now c.running.rest.now c.in-Some.line.now c.in-Some.after.now c.running.world c.answer_line.new.world _ _ _
      c.running.text.items (c.running.text.items ++ c.answer_line.new.text.items) c.send_reply.new.text.items c.running.invariant.lines
      c.in-Some.ensures
      (answered_behind c.running.world c.answer_line.new.world c.in-Some.line.now c.running.text.items c.running.reply.items
      c.answer_line.new.text.items c.running.invariant.apart c.in-Ok.ensures)
      c.in_ok-send_reply.ensures.sent;
  apart = c.in_ok-send_reply.ensures.empty;
  later = omega (arith, c.running.invariant.later, c.send_reply.ensures.later);
}

pub returns-clause-all : goal.returns-clause-all
returns-clause-all g c =
    on_ok_follows c.write_all.result
    (λ put. ends_put c.args.input.now c.running.rest.now c.running.world _ _ _ c.running.text.items c.as_slice-2.result.now
    c.running.invariant.lines c.in_default.ensures c.as_slice-2.ensures.value put)
    c.write_all.ensures.all

pub returns-clause-prefix : goal.returns-clause-prefix
returns-clause-prefix g c =
    on_err_weaker c.write_all.result
    (λ put. stops_at_end c.args.input.now c.running.rest.now c.running.world _ _ _ c.running.text.items c.as_slice-2.result.now
    c.running.invariant.lines c.in_default.ensures c.as_slice-2.ensures.value put)
    c.write_all.ensures.prefix
