-- A run has as many numbers as are left.
use Rattle.std.proofs.Common.{length, ap, arith}
use Rattle.pybuf_index.specs.Facts.{run_length}
use Rattle.pybuf_index.proofs.iter.SaturatedSliceIterIterator.size_hint.Goals as goal

pub returns-clause-lower : goal.returns-clause-lower
returns-clause-lower c = λ _.
    omega (arith, run_length c.self.inside.falls c.self.inside.low c.self.inside.stride c.self.inside.left, ap length c.self.view_is)

pub returns-clause-upper : goal.returns-clause-upper
returns-clause-upper c =
    (tt, omega (arith, run_length c.self.inside.falls c.self.inside.low c.self.inside.stride c.self.inside.left, ap length c.self.view_is))
