use Rattle.std.proofs.Common.{codes, decimal}
use Rattle.pybuf_lemmas.proofs.Lists.{three_parts}
use Rattle.pybuf_line.proofs.texts.push_bad_line.Goals as goal

pub returns : goal.returns
returns c =
    three_parts c.args.out.now.items c.extend_from_slice.new.self.items c.push_decimal.new.out.items c.extend_from_slice-2.new.self.items
    (codes "line ") (decimal c.args.number) (codes " is not a command\n") c.in_ok-extend_from_slice.ensures.items
    c.in_ok-push_decimal.ensures c.in_ok-extend_from_slice-2.ensures.items
