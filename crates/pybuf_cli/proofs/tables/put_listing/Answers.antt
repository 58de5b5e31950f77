use Rattle.std.proofs.Common.{◌≡◌, [], length, arith}
use Rattle.std.proofs.lemmas.Grind.{common_steps}
use Rattle.std.proofs.lemmas.List.{nil_from_length}
use Rattle.std.proofs.lemmas.Result.{on_err_weaker}
use Rattle.pybuf_lemmas.proofs.Results.{on_ok_follows}
use Rattle.pybuf_cli.proofs.Outcomes.{on_err}
use Rattle.pybuf_cli.proofs.Tabling.{tabling_stops_before, tabling_stops_behind, tabling_goes_on, tabling_ends}
use Rattle.pybuf_cli.proofs.tables.put_listing.Goals as goal

pub returns-in_default-clause-prefix : goal.returns-in_default-clause-prefix
returns-in_default-clause-prefix g c =
    tabling_stops_before c.args.listing.now c.args.input.now c.tabling.rest.now _ _ _ c.tabling.text.items c.as_slice.result.now
    c.tabling.invariant.lines c.as_slice.ensures.value c.send_front.ensures.prefix

pub returns-in_err-send_reply-clause-prefix : goal.returns-in_err-send_reply-clause-prefix
returns-in_err-send_reply-clause-prefix g c =
    on_err c.from_residual.result
    (tabling_stops_behind c.args.listing.now c.args.input.now c.tabling.rest.now c.in-Ok.after.now _ _ _ c.tabling.text.items c.tabling.line.items
    c.push_first.new.out.items c.tabling.invariant.lines c.tabling.invariant.apart c.in-Ok.ensures.text c.in_err-send_reply.ensures.prefix)

pub tabling-preserved : goal.tabling-preserved
tabling-preserved g c = record {
  lines = tabling_goes_on c.args.listing.now c.args.input.now c.tabling.rest.now c.in-Ok.after.now _ _ _ c.tabling.text.items c.tabling.line.items
      c.push_first.new.out.items c.send_reply.new.text.items c.tabling.invariant.lines c.tabling.invariant.apart c.in-Ok.ensures.text
      c.in_ok-send_reply.ensures.sent;
  apart = c.in_ok-send_reply.ensures.empty;
  whole = c.in-Ok.ensures.whole;
  later = omega (arith, c.tabling.invariant.later, c.send_reply.ensures.later);
}

pub returns-clause-all : goal.returns-clause-all
returns-clause-all g c =
    let nothing : length c.tabling.rest.now ≡ 0 = grind (arith, common_steps) in
    let none : c.tabling.rest.now ≡ [] = nil_from_length c.tabling.rest.now nothing in
    on_ok_follows c.write_all.result
    (λ put. tabling_ends c.args.listing.now c.args.input.now c.tabling.rest.now _ _ _ c.tabling.text.items c.as_slice-2.result.now
    c.tabling.invariant.lines none c.as_slice-2.ensures.value put)
    c.write_all.ensures.all

pub returns-clause-prefix : goal.returns-clause-prefix
returns-clause-prefix g c =
    on_err_weaker c.write_all.result
    (λ front. tabling_stops_before c.args.listing.now c.args.input.now c.tabling.rest.now _ _ _ c.tabling.text.items c.as_slice-2.result.now
    c.tabling.invariant.lines c.as_slice-2.ensures.value front)
    c.write_all.ensures.prefix
