use Rattle.pybuf_numbers.proofs.Walking.{walk_of_all}
use Rattle.pybuf_numbers.proofs.runs.IndexRun.all.Goals as goal

pub returns-clause-indices : goal.returns-clause-indices
returns-clause-indices c = walk_of_all 0 c.args.count
