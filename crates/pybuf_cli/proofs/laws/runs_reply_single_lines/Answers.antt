use Rattle.pybuf_cli.proofs.ReplyLaws.{runs_single}
use Rattle.pybuf_cli.proofs.laws.runs_reply_single_lines.Goals as goal

pub returns : goal.returns
returns c = runs_single c.world_shown_texts_are_one_line.ensures c.replies_are_single_lines.ensures.names
