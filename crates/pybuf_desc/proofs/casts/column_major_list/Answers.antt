use Rattle.std.proofs.Common.{◌++◌, [], ◌∷◌, ℕ, ℤ, pos, w64, slice_index_or, refl, ap, ◌∙◌, arith}
use Rattle.std.proofs.lemmas.Int.{ints, to_z_pos}
use Rattle.pybuf_desc.proofs.ColumnCasts.{column_step, step_fits, next_step_fits}
use Rattle.pybuf_desc.proofs.casts.column_major_list.Goals as goal

pub overflow_cast-size : goal.overflow_cast-size
overflow_cast-size c =
    let below = step_fits c.args.itemsize c.loop-n.size c.loop-n.n-index c.args.shape.now c.requires.entries c.requires.fits c.loop-n.invariant.0 in omega (arith, ints, below)

pub overflow_mul-size : goal.overflow_mul-size
overflow_mul-size c =
    let below = next_step_fits c.args.itemsize c.loop-n.size c.loop-n.n-index c.args.shape.now c.loop-n-test.true c.requires.entries c.requires.fits c.loop-n.invariant.0 in omega (arith, below)

pub loop-n-preserved : goal.loop-n-preserved
loop-n-preserved c =
    let n : ℕ = slice_index_or c.args.shape.now c.loop-n.n-index 0 in
    let below = step_fits c.args.itemsize c.loop-n.size c.loop-n.n-index c.args.shape.now c.requires.entries c.requires.fits c.loop-n.invariant.0 in
    let step = column_step c.args.itemsize c.loop-n.size n c.loop-n.n-index c.args.shape.now c.loop-n.dims c.push.new.self c.loop-n-test.true refl c.loop-n.invariant.0 c.loop-n.invariant.1
    (c.in_ok-push.ensures.ok ∙ ap (λ (stride : ℤ). c.loop-n.dims ++ (n, stride, pos 0) ∷ []) (to_z_pos w64 c.loop-n.size below)) in
    (step.size_is, step.dims_are)
