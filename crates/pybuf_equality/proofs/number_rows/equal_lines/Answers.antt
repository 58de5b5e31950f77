use Rattle.std.proofs.Common.{length, ◌∙◌}
use Rattle.pybuf_equality.proofs.Rows.{row_inside, other_row_inside, rows_of_numbers}
use Rattle.pybuf_equality.proofs.number_rows.equal_lines.Goals as goal

pub equal_numbers-requires-clause-inside : goal.equal_numbers-requires-clause-inside
equal_numbers-requires-clause-inside c = row_inside c.args.line c.args.other_line (length c.args.bytes.now) (length c.args.other.now) c.requires.line c.requires.as_many c.requires.paired

pub equal_numbers-requires-clause-other_inside : goal.equal_numbers-requires-clause-other_inside
equal_numbers-requires-clause-other_inside c = other_row_inside c.args.line c.args.other_line (length c.args.bytes.now) (length c.args.other.now) c.requires.other_line c.requires.as_many c.requires.paired

pub returns : goal.returns
returns c = c.equal_numbers.ensures ∙ rows_of_numbers c.args.bytes.now c.args.other.now c.args.line c.args.other_line c.args.signed c.args.other_signed c.requires.as_many
