use Rattle.std.proofs.Common.{codes, decimal}
use Rattle.pybuf_histories.specs.Entries.{entry_text}
use Rattle.pybuf_histories.specs.Faults.{kept_text}
use Rattle.pybuf_histories.proofs.Joined.{seven_parts}
use Rattle.pybuf_histories.proofs.faults.push_disagreement.Goals as goal

pub returns : goal.returns
returns c =
    seven_parts c.args.out.now.items c.extend_from_slice.new.self.items c.push_decimal.new.out.items c.extend_from_slice-2.new.self.items
    c.push_kept.new.out.items c.extend_from_slice-3.new.self.items c.push_entry.new.out.items c.push.new.self.items
    (codes "disagree ") (decimal c.args.at) (codes ": ") (kept_text c.args.kept.now) (codes " | ") (entry_text c.args.got.now) (codes "\n")
    c.in_ok-extend_from_slice.ensures.items c.in_ok-push_decimal.ensures c.in_ok-extend_from_slice-2.ensures.items c.in_ok-push_kept.ensures
    c.in_ok-extend_from_slice-3.ensures.items c.in_ok-push_entry.ensures c.in_ok-push.ensures.items
