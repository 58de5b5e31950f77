use Rattle.pybuf_exporter.proofs.Unknown.{unknown_refused, unlent_refused}
use Rattle.pybuf_exporter.proofs.laws.unknown_handles_are_refused.Goals as goal

pub returns-clause-commands : goal.returns-clause-commands
returns-clause-commands c = unknown_refused

pub returns-clause-lenders : goal.returns-clause-lenders
returns-clause-lenders c = unlent_refused
