use Rattle.pybuf_histories.proofs.EntryLaws.{lines_single}
use Rattle.pybuf_histories.proofs.laws.histories_have_a_line_for_each_entry.Goals as goal

pub returns : goal.returns
returns c = lines_single c.replies_are_single_lines.ensures.handles c.shown_texts_are_one_line.ensures
