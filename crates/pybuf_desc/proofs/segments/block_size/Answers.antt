use Rattle.std.proofs.Common.{◌*◌, ◌<◌, ◌-◌, ◌^◌, arith, ap, ◌∙◌}
use Rattle.pybuf_desc.proofs.Moves.{dim_at}
use Rattle.pybuf_desc.proofs.Strides.{size_below, next_size}
use Rattle.pybuf_desc.proofs.segments.block_size.Goals as goal

pub overflow_mul-size : goal.overflow_mul-size
overflow_mul-size c =
    let below = size_below c.args.itemsize (c.loop-k.k - 1) c.args.dims.now c.requires.entries c.requires.fits in
    let next = next_size c.args.itemsize c.loop-k.k c.args.dims.now c.loop-k-test.true c.loop-k.invariant.0 in
    let size = c.loop-k.invariant.1 in
    let product : c.loop-k.size * (dim_at c.args.dims.now (c.loop-k.k - 1)).0 < 2 ^ 63 = rw size (rw next below) in
    omega (arith, product)

pub loop-k-preserved : goal.loop-k-preserved
loop-k-preserved c = (
  omega (arith, c.loop-k.invariant.0),
  ap (λ n. n * (dim_at c.args.dims.now (c.loop-k.k - 1)).0) c.loop-k.invariant.1 ∙ next_size c.args.itemsize c.loop-k.k c.args.dims.now c.loop-k-test.true c.loop-k.invariant.0,
)
