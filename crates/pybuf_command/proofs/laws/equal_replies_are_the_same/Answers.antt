use Rattle.pybuf_command.proofs.SameReplies.{replies_same}
use Rattle.pybuf_command.proofs.laws.equal_replies_are_the_same.Goals as goal

pub returns : goal.returns
returns c = replies_same c.equal_values_are_the_same.ensures
