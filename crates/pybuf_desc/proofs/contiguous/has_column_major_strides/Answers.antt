use Rattle.std.proofs.Common.{◌≡◌, ◌<◌, ◌≤◌, pos, arith, rules, ap, sym, ◌∙◌, SFits, w64, to_z, length}
use Rattle.std.proofs.lemmas.Int.{ints, to_z-of_z, to_z_pos}
use Rattle.pybuf_desc.proofs.Moves.{dim_at}
use Rattle.pybuf_desc.proofs.ColumnSteps.{column_size, next_column_size, column_kept, column_alone}
use Rattle.pybuf_desc.proofs.contiguous.has_column_major_strides.Goals as goal
use Rattle.pybuf_desc.proofs.contiguous.has_column_major_strides.Goals.{then-shape-gt1+else-dim-size, else-shape-gt1}

pub overflow_cast-size : goal.overflow_cast-size
overflow_cast-size c =
    let below = column_size c.loop-dim.size c.args.itemsize c.loop-dim.dim-index c.args.dims.now c.requires.entries c.requires.fits c.loop-dim.invariant.0 in
    omega (arith, ints, below)

pub overflow_mul-size : goal.overflow_mul-size
overflow_mul-size c =
    let below = next_column_size c.loop-dim.size c.args.itemsize c.loop-dim.dim-index c.args.dims.now (omega arith) c.requires.entries c.requires.fits c.loop-dim.invariant.0 in
    omega (arith, below)

pub loop-dim-preserved : goal.loop-dim-preserved
loop-dim-preserved c =
    let there : c.loop-dim.dim-index < length c.args.dims.now = omega arith in
    elim c.if-shape-gt1.branch [
      | then-shape-gt1+else-dim-size w ↦
          let f : SFits w64 (dim_at c.args.dims.now c.loop-dim.dim-index).1 = search rules in
          let below = column_size c.loop-dim.size c.args.itemsize c.loop-dim.dim-index c.args.dims.now c.requires.entries c.requires.fits c.loop-dim.invariant.0 in
          let stride : (dim_at c.args.dims.now c.loop-dim.dim-index).1 ≡ pos c.loop-dim.size =
          sym (to_z-of_z w64 (dim_at c.args.dims.now c.loop-dim.dim-index).1 f) ∙ ap (to_z w64) w.if-dim-size.false ∙ to_z_pos w64 c.loop-dim.size below in
          column_kept c.loop-dim.size c.if-shape-gt1.size c.args.itemsize c.loop-dim.dim-index c.args.dims.now there c.loop-dim.invariant.0 c.loop-dim.invariant.1 (λ _. stride) w.size-is
      | else-shape-gt1 w ↦
          let few : (dim_at c.args.dims.now c.loop-dim.dim-index).0 ≤ 1 = w.if-shape-gt1.false in
          let some : 0 < (dim_at c.args.dims.now c.loop-dim.dim-index).0 = c.requires.entries c.loop-dim.dim-index (0, pos 0, pos 0) there in
          column_kept c.loop-dim.size c.if-shape-gt1.size c.args.itemsize c.loop-dim.dim-index c.args.dims.now there c.loop-dim.invariant.0 c.loop-dim.invariant.1 (λ more. absurd (omega (arith, more, few)))
          (w.size-is ∙ column_alone c.loop-dim.size (dim_at c.args.dims.now c.loop-dim.dim-index).0 some (λ more. omega (arith, more, few)))
    ]
