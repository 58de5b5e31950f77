use Rattle.std.proofs.Common.{ap, sym, ◌∙◌, length, ◌/◌}
use Rattle.pybuf_numbers.specs.Facts.{length_of_numbers}
use Rattle.pybuf_numbers.proofs.reads.count_of_numbers.Goals as goal

pub returns : goal.returns
returns c = ap (λ s. length c.args.bytes.now / s) c.size.ensures ∙ sym (length_of_numbers c.args.code c.args.bytes.now)
