use Rattle.std.proofs.Common.{codes, decimal}
use Rattle.pybuf_histories.proofs.Joined.{seven_parts}
use Rattle.pybuf_histories.proofs.faults.push_fall.Goals as goal

pub returns : goal.returns
returns c =
    seven_parts c.args.out.now.items c.extend_from_slice.new.self.items c.push_decimal.new.out.items c.extend_from_slice-2.new.self.items
    c.push_decimal-2.new.out.items c.push.new.self.items c.push_decimal-3.new.out.items c.push-2.new.self.items
    (codes "order ") (decimal c.args.session) (codes ": ") (decimal c.args.before) (codes " ") (decimal c.args.after) (codes "\n")
    c.in_ok-extend_from_slice.ensures.items c.in_ok-push_decimal.ensures c.in_ok-extend_from_slice-2.ensures.items c.in_ok-push_decimal-2.ensures
    c.in_ok-push.ensures.items c.in_ok-push_decimal-3.ensures c.in_ok-push-2.ensures.items
