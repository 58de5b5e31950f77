use Rattle.pybuf_nd_lines.proofs.Cuts.{contiguous_whole, inside_if}
use Rattle.pybuf_nd_lines.proofs.cutting.in_shape.Goals as goal

pub cast_shape-requires-clause-contiguous : goal.cast_shape-requires-clause-contiguous
cast_shape-requires-clause-contiguous c = contiguous_whole c.args.count c.in_ok-whole.whole c.in_ok-whole.ensures

pub returns-clause-inside : goal.returns-clause-inside
returns-clause-inside c =
    inside_if c.shaped_casts_stay_inside.ensures c.cast_shape.result c.args.count c.args.shape.now c.of_bytes.result c.in_ok-whole.whole c.requires.whole c.in_ok-whole.ensures c.cast_shape.ensures
