use Rattle.pybuf_histories.proofs.EntryLaws.{entries_single}
use Rattle.pybuf_histories.proofs.laws.entries_are_single_lines.Goals as goal

pub returns : goal.returns
returns c = entries_single c.replies_are_single_lines.ensures.handles c.shown_texts_are_one_line.ensures
