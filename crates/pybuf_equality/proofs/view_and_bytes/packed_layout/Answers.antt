use Rattle.std.proofs.Common.{length, true, ap, ◌∙◌, arith}
use Rattle.pybuf_desc.specs.Facts.{whole_is_contiguous, positive_product}
use Rattle.pybuf_desc.specs.Contiguous.{is_contiguous_layout}
use Rattle.pybuf_desc.specs.Layouts.{product}
use Rattle.pybuf_equality.proofs.Filled.{packed_from, packed_so, size_below}
use Rattle.pybuf_equality.proofs.view_and_bytes.packed_layout.Goals as goal

pub cast_shape-requires-clause-contiguous : goal.cast_shape-requires-clause-contiguous
cast_shape-requires-clause-contiguous c = ap is_contiguous_layout c.in_ok-whole.ensures ∙ whole_is_contiguous (length c.args.content.now) true

pub cast_shape-requires-clause-size_fits : goal.cast_shape-requires-clause-size_fits
cast_shape-requires-clause-size_fits c = size_below c.args.itemsize (product c.args.shape.now) (length c.args.content.now) c.requires.filled (positive_product c.args.shape.now c.requires.entries) (omega arith)

pub returns : goal.returns
returns c =
    packed_so c.cast_shape.result c.args.content.now c.args.format.now c.args.itemsize c.args.shape.now _ c.cast_shape.ensures
    (packed_from c.shaped_casts_share_their_bytes.ensures c.shaped_casts_stay_inside.ensures c.args.content.now c.args.format.now c.in_ok-format.format c.args.itemsize c.args.shape.now c.in_ok-whole.whole c.requires.some_size c.requires.filled
    c.in_ok-whole.ensures (c.in_ok-format.ensures ∙ c.as_str.ensures))
