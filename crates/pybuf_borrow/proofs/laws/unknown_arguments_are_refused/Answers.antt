use Rattle.pybuf_borrow.proofs.Unknown.{unknown_refused}
use Rattle.pybuf_borrow.proofs.laws.unknown_arguments_are_refused.Goals as goal

pub returns : goal.returns
returns c = unknown_refused
