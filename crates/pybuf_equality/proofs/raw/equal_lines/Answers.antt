use Rattle.std.proofs.Common.{length, ◌∙◌}
use Rattle.pybuf_equality.proofs.Rows.{row_inside, other_row_inside, with_size, as_wide, rows_same}
use Rattle.pybuf_equality.proofs.raw.equal_lines.Goals as goal

pub equal_pieces-requires-clause-inside : goal.equal_pieces-requires-clause-inside
equal_pieces-requires-clause-inside c = row_inside c.args.line c.args.other_line (length c.args.bytes.now) (length c.args.other.now) c.requires.line c.requires.as_many c.requires.paired

pub equal_pieces-requires-clause-other_inside : goal.equal_pieces-requires-clause-other_inside
equal_pieces-requires-clause-other_inside c =
    with_size c.args.other_line.track.falls c.args.other_line.track.start c.args.other_line.track.step c.args.line.count c.args.line.size c.args.other_line.size (length c.args.other.now)
    (as_wide c.args.line c.args.other_line c.requires.line c.requires.as_many c.requires.as_long)
    (other_row_inside c.args.line c.args.other_line (length c.args.bytes.now) (length c.args.other.now) c.requires.other_line c.requires.as_many c.requires.paired)

pub returns : goal.returns
returns c =
    c.equal_pieces.ensures
    ∙ rows_same c.args.bytes.now c.args.other.now c.args.line c.args.other_line c.requires.as_many (as_wide c.args.line c.args.other_line c.requires.line c.requires.as_many c.requires.as_long)
