-- A run has as many numbers as are left.
use Rattle.std.proofs.Common.{length, ap, sym, ◌∙◌}
use Rattle.pybuf_index.specs.Facts.{run_length}
use Rattle.pybuf_index.proofs.iter.SaturatedSliceIterExactSizeIterator.len.Goals as goal

pub returns-clause-value : goal.returns-clause-value
returns-clause-value c =
    sym (run_length c.self.inside.falls c.self.inside.low c.self.inside.stride c.self.inside.left) ∙ ap length c.self.view_is
