use Rattle.std.proofs.Common.{rules, ◌<◌, ◌≡◌, get_or, length, arith}
use Rattle.pybuf_cli.proofs.Outcomes.{on_err}
use Rattle.pybuf_cli.proofs.Entries.{shows_next, stops_at, stops_after}
use Rattle.pybuf_cli.proofs.sharing.put_entries.Goals as goal

pub returns-in_default-clause-prefix : goal.returns-in_default-clause-prefix
returns-in_default-clause-prefix g c =
    stops_at _ _ _ c.args.entries.now c.loop-entry.entry-index c.loop-entry.text.items c.as_slice.result.now c.loop-entry.invariant.lines
    c.as_slice.ensures.value c.send_front.ensures.prefix

pub returns-in_err-send_reply-clause-prefix : goal.returns-in_err-send_reply-clause-prefix
returns-in_err-send_reply-clause-prefix g c =
    let i = c.loop-entry.entry-index in
    let es = c.args.entries.now in
    let within : i < length es = search rules in
    let read : c.entry-item.result ≡ get_or es i c.entry-item.result = search rules in
    on_err c.from_residual.result
    (stops_after _ _ _ es i c.entry-item.result c.loop-entry.text.items c.loop-entry.line.items c.push_entry_line.new.out.items within read
    c.loop-entry.invariant.lines c.loop-entry.invariant.apart c.in-Ok.ensures c.in_err-send_reply.ensures.prefix)

pub loop-entry-preserved : goal.loop-entry-preserved
loop-entry-preserved g c =
    let i = c.loop-entry.entry-index in
    let es = c.args.entries.now in
    let within : i < length es = search rules in
    let read : c.entry-item.result ≡ get_or es i c.entry-item.result = search rules in
    record {
      lines = shows_next _ _ _ es i c.entry-item.result c.loop-entry.text.items c.loop-entry.line.items c.push_entry_line.new.out.items
          c.send_reply.new.text.items within read c.loop-entry.invariant.lines c.loop-entry.invariant.apart c.in-Ok.ensures
          c.in_ok-send_reply.ensures.sent;
      apart = c.in_ok-send_reply.ensures.empty;
      later = omega (arith, c.loop-entry.invariant.later, c.send_reply.ensures.later);
    }
