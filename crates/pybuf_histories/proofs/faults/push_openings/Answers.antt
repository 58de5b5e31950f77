use Rattle.std.proofs.Common.{codes}
use Rattle.pybuf_histories.specs.Faults.{opening_text}
use Rattle.pybuf_histories.proofs.Joined.{five_parts}
use Rattle.pybuf_histories.proofs.faults.push_openings.Goals as goal

pub returns : goal.returns
returns c =
    five_parts c.args.out.now.items c.extend_from_slice.new.self.items c.push_opening.new.out.items c.extend_from_slice-2.new.self.items
    c.push_opening-2.new.out.items c.push.new.self.items
    (codes "opening ") (opening_text c.args.given_kind c.args.given.now) (codes " | ") (opening_text c.args.kept_kind c.args.kept.now) (codes "\n")
    c.in_ok-extend_from_slice.ensures.items c.in_ok-push_opening.ensures c.in_ok-extend_from_slice-2.ensures.items
    c.in_ok-push_opening-2.ensures c.in_ok-push.ensures.items
