use Rattle.pybuf_array.proofs.Lengths.{lengths_stay}
use Rattle.pybuf_array.proofs.array.PyArray.run.Goals as goal

pub returns-clause-length : goal.returns-clause-length
returns-clause-length c = lengths_stay _ c.args.ops.now
