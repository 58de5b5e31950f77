use Rattle.pybuf_array_lines.proofs.ReplyLaws.{replies_single}
use Rattle.pybuf_array_lines.proofs.laws.array_replies_are_single_lines.Goals as goal

pub returns : goal.returns
returns c = replies_single c.replies_are_single_lines.ensures.handles
