use Rattle.std.proofs.Common.{◌*◌, arith, ap, sym, ◌∙◌, mul-one, drop_of_length-le}
use Rattle.pybuf_desc.specs.Layouts.{product}
use Rattle.pybuf_desc.specs.Descriptor.{shape_of}
use Rattle.pybuf_nd.proofs.MadeLemmas.{bytes_fit, bytes_more}
use Rattle.pybuf_nd.proofs.made.bytes_of_dims.Goals as goal

pub overflow_mul-bytes : goal.overflow_mul-bytes
overflow_mul-bytes c =
    let fits = bytes_fit c.args.dims.now c.loop-dim.dim-index c.loop-dim.bytes c.loop-dim-test.true c.loop-dim.invariant.1 in omega (arith, fits)

pub loop-dim-preserved : goal.loop-dim-preserved
loop-dim-preserved c = bytes_more c.args.dims.now c.loop-dim.dim-index c.loop-dim.bytes _ c.loop-dim-test.true c.loop-dim.invariant.1 c.loop-dim.invariant.0

pub returns : goal.returns
returns c =
    sym (mul-one c.loop-dim.bytes) ∙ ap (λ ds. c.loop-dim.bytes * product (shape_of ds)) (sym (drop_of_length-le c.args.dims.now c.loop-dim-test.false)) ∙ c.loop-dim.invariant.0
