use Rattle.std.proofs.Common.{length, ◌∙◌}
use Rattle.pybuf_equality.proofs.Rows.{single_inside, single_same}
use Rattle.pybuf_equality.proofs.number_rows.equal_ranges.Goals as goal

pub equal_numbers-requires-clause-inside : goal.equal_numbers-requires-clause-inside
equal_numbers-requires-clause-inside c = single_inside c.args.range (length c.args.bytes.now) c.requires.part

pub equal_numbers-requires-clause-other_inside : goal.equal_numbers-requires-clause-other_inside
equal_numbers-requires-clause-other_inside c = single_inside c.args.other_range (length c.args.other.now) c.requires.other_part

pub returns : goal.returns
returns c = c.equal_numbers.ensures ∙ single_same c.args.bytes.now c.args.other.now c.args.range c.args.other_range c.args.signed c.args.other_signed
