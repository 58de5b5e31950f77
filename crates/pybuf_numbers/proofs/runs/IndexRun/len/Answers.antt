use Rattle.std.proofs.Common.{sym}
use Rattle.pybuf_numbers.proofs.Walking.{length_walk}
use Rattle.pybuf_numbers.proofs.runs.IndexRun.len.Goals as goal

pub returns-clause-indices : goal.returns-clause-indices
returns-clause-indices c = let r = c.args.self.now in sym (length_walk r.falls r.start r.stride r.count)
