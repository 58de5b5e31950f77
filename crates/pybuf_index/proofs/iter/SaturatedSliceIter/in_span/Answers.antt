-- The run that the code keeps is the indices of the span.
use Rattle.pybuf_index.proofs.SpanLemmas.{run_of_stride}
use Rattle.pybuf_index.proofs.iter.SaturatedSliceIter.in_span.Goals as goal

pub returns : goal.returns
returns c =
    run_of_stride c.args.range.start c.args.range.end c.args.stride c.count_between-left.result c.lowest-low.result c.args.falls
    c.requires.moves c.count_between-left.ensures.count c.lowest-low.ensures.least
