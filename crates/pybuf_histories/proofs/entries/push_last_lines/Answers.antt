use Rattle.std.proofs.Common.{codes, decimal}
use Rattle.pybuf_value.specs.Spelling.{bytes_text}
use Rattle.pybuf_histories.specs.Entries.{last_lines}
use Rattle.pybuf_histories.proofs.Joined.{five_parts}
use Rattle.pybuf_histories.proofs.entries.push_last_lines.Goals as goal

pub returns : goal.returns
unfolding last_lines
returns c =
    five_parts c.args.out.now.items c.extend_from_slice.new.self.items c.push_decimal.new.out.items c.extend_from_slice-2.new.self.items
    c.push_bytes.new.out.items c.push.new.self.items
    (codes "calls ") (decimal c.args.calls) (codes "\nbytes ") (bytes_text c.args.bytes.now) (codes "\n")
    c.in_ok-extend_from_slice.ensures.items c.in_ok-push_decimal.ensures c.in_ok-extend_from_slice-2.ensures.items
    c.in_ok-push_bytes.ensures c.in_ok-push.ensures.items
