use Rattle.std.proofs.Common.{arith, ◌<◌, pos, length, sym}
use Rattle.pybuf_nd.proofs.CutBits.{cut_more, saturated_more, cut_done}
use Rattle.pybuf_nd.proofs.selection.cut_dims.Goals as goal

pub cut_dim-requires : goal.cut_dim-requires
cut_dim-requires c = c.requires.fits c.loop-k.k (0, pos 0, pos 0) c.loop-k-test.true

pub loop-k-preserved : goal.loop-k-preserved
loop-k-preserved c =
    let below : c.loop-k.k < length c.args.slices.now = (let long = c.requires.one_each in let test = c.loop-k-test.true in omega (arith, long, test)) in (
      cut_more c.args.dims.now c.args.slices.now c.loop-k.k c.index-slices-k.result c.loop-k.cut c.push.new.self _ c.cut_dim.result c.loop-k-test.true below (sym c.index-slices-k.is) c.cut_dim.ensures.cut c.in_ok-push.ensures.ok c.loop-k.invariant.0,
      saturated_more c.args.slices.now c.loop-k.k c.index-slices-k.result below (sym c.index-slices-k.is) c.cut_dim.ensures.saturated c.loop-k.invariant.1,
    )

pub returns-clause-cut : goal.returns-clause-cut
returns-clause-cut c = cut_done c.args.dims.now c.args.slices.now c.loop-k.k c.loop-k.cut _ c.loop-k-test.false c.loop-k.invariant.0

pub returns-clause-saturated : goal.returns-clause-saturated
returns-clause-saturated c = λ j d below.
    c.loop-k.invariant.1 j d (let long = c.requires.one_each in let end = c.loop-k-test.false in omega (arith, long, end, below))
