use Rattle.std.proofs.Common.{◌/◌, ◌++◌, [], ◌∷◌, ℕ, ℤ, pos, w64, slice_index_or, refl, ap, ◌∙◌}
use Rattle.std.proofs.lemmas.Int.{to_z_pos}
use Rattle.pybuf_desc.proofs.ShapedCasts.{dim_step}
use Rattle.pybuf_desc.proofs.casts.row_major_list.Goals as goal

pub loop-n-preserved : goal.loop-n-preserved
loop-n-preserved c =
    let n : ℕ = slice_index_or c.args.shape.now c.loop-n.n-index 0 in
    let step = dim_step c.args.itemsize c.loop-n.size n c.loop-n.n-index c.args.shape.now c.loop-n.dims c.push.new.self c.loop-n-test.true refl c.requires.entries c.loop-n.invariant.0 c.loop-n.invariant.1 c.loop-n.invariant.2 in
    (step.size_is, step.size_fits, step.dims_are (c.in_ok-push.ensures.ok ∙ ap (λ (stride : ℤ). c.loop-n.dims ++ (n, stride, pos 0) ∷ []) (to_z_pos w64 (c.loop-n.size / n) step.size_fits)))
