use Rattle.std.proofs.Common.{◌+◌, ◌*◌, drop, ap, sym, ◌∙◌, arith}
use Rattle.pybuf_desc.specs.Layouts.{product}
use Rattle.pybuf_nd_lines.specs.Shapes.{most_items}
use Rattle.pybuf_nd_lines.proofs.Small.{too_many, product_more}
use Rattle.pybuf_nd_lines.proofs.shapes.is_small.Goals as goal

pub returns-then-more-gt-MOST_ITEMS : goal.returns-then-more-gt-MOST_ITEMS
returns-then-more-gt-MOST_ITEMS c =
    sym (too_many c.args.shape.now c.loop-entries.entries-index c.loop-entries.items most_items c.requires c.loop-entries-test.true c.loop-entries.invariant.0
    (omega (arith, c.in-Some.ensures, c.if-more-gt-MOST_ITEMS.true)))

pub returns-in-None : goal.returns-in-None
returns-in-None c =
    sym (too_many c.args.shape.now c.loop-entries.entries-index c.loop-entries.items most_items c.requires c.loop-entries-test.true c.loop-entries.invariant.0
    (omega (arith, c.in-None.ensures)))

pub loop-entries-preserved : goal.loop-entries-preserved
loop-entries-preserved c = (
  product_more c.args.shape.now c.loop-entries.entries-index c.loop-entries.items (product c.args.shape.now) c.loop-entries-test.true c.loop-entries.invariant.0
      ∙ ap (λ n. n * product (drop (c.loop-entries.entries-index + 1) c.args.shape.now)) (sym c.in-Some.ensures.1),
  omega (arith, c.if-more-gt-MOST_ITEMS.false),
)
