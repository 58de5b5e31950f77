-- The run that the code keeps is the indices of the span.
use Rattle.std.proofs.Common.{◌≡◌, pos, ap, ◌∙◌}
use Rattle.std.specs.Int.{w64}
use Rattle.std.specs.Prelude.{int_lt, nat_abs}
use Rattle.std.proofs.lemmas.Int.{to_z-of_z}
use Rattle.pybuf_index.specs.Facts.{negative_is}
use Rattle.pybuf_index.proofs.SpanLemmas.{run_of_span, run_fits}
use Rattle.pybuf_index.proofs.iter.SaturatedSliceIter.from_adjust_indices.Goals as goal

pub lowest-low-requires-clause-fits : goal.lowest-low-requires-clause-fits
lowest-low-requires-clause-fits c =
    let stride : c.unsigned_abs-stride.result ≡ nat_abs c.args.step = c.unsigned_abs-stride.ensures.value ∙ ap nat_abs (to_z-of_z w64 c.args.step c.ranges.step) in
    rw stride (run_fits c.args.range.start c.args.range.end c.args.step c.args.len c.requires.moves c.requires.ordered c.requires.count)

pub returns : goal.returns
returns c =
    let same = to_z-of_z w64 c.args.step c.ranges.step in
    run_of_span c.args.range.start c.args.range.end c.args.step c.args.len c.lowest-low.result c.unsigned_abs-stride.result _
    c.requires.moves c.requires.count
    c.lowest-low.ensures.least
    (c.unsigned_abs-stride.ensures.value ∙ ap nat_abs same)
    (ap (λ z. int_lt z (pos 0)) same ∙ negative_is c.args.step)
