use Rattle.pybuf_line.proofs.ReplyLaws.{reply_single, handle_single}
use Rattle.pybuf_line.proofs.laws.replies_are_single_lines.Goals as goal

pub returns-clause-handles : goal.returns-clause-handles
returns-clause-handles c = handle_single

pub returns-clause-names : goal.returns-clause-names
returns-clause-names c = reply_single
