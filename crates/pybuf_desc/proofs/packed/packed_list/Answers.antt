use Rattle.std.proofs.Common.{◌++◌, [], ◌∷◌, ℕ, ℤ, pos, w64, get_or, refl, ap, ◌∙◌}
use Rattle.std.proofs.lemmas.Int.{to_z_pos}
use Rattle.pybuf_desc.proofs.PackedDims.{packed_step}
use Rattle.pybuf_desc.proofs.packed.packed_list.Goals as goal

pub loop-dim-preserved : goal.loop-dim-preserved
loop-dim-preserved c =
    let n : ℕ = (get_or c.args.dims.now c.loop-dim.dim-index (0, pos 0, pos 0)).0 in
    let next : ℕ = c.entry_size-size.result in
    let step = packed_step c.args.itemsize c.loop-dim.size next n c.loop-dim.dim-index c.args.dims.now c.loop-dim.packed c.push.new.self c.loop-dim-test.true refl c.requires.later c.entry_size-size.ensures.none c.entry_size-size.ensures.some c.loop-dim.invariant.0 c.loop-dim.invariant.1 c.loop-dim.invariant.2 in
    (step.size_is, step.size_fits, step.dims_are (c.in_ok-push.ensures.ok ∙ ap (λ (stride : ℤ). c.loop-dim.packed ++ (n, stride, pos 0) ∷ []) (to_z_pos w64 next step.size_fits)))
