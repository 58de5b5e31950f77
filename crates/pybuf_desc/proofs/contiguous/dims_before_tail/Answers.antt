use Rattle.std.proofs.Common.{◌≡◌, ◌<◌, ◌≤◌, ◌*◌, ◌-◌, ◌^◌, pos, arith, rules, ap, sym, ◌∙◌, SFits, w64, to_z, drop}
use Rattle.std.proofs.lemmas.Int.{ints, to_z-of_z, to_z_pos}
use Rattle.pybuf_desc.specs.Layouts.{product}
use Rattle.pybuf_desc.specs.Descriptor.{shape_of}
use Rattle.pybuf_desc.proofs.Moves.{dim_at}
use Rattle.pybuf_desc.proofs.Strides.{size_below, next_size, strides_step, entry_alone}
use Rattle.pybuf_desc.proofs.contiguous.dims_before_tail.Goals as goal
use Rattle.pybuf_desc.proofs.contiguous.dims_before_tail.Goals.{then-shape-gt1+else-dims-k, else-shape-gt1}

pub overflow_cast-size : goal.overflow_cast-size
overflow_cast-size c =
    let below = size_below c.args.itemsize c.loop-k.k c.args.dims.now c.requires.entries c.requires.fits in
    let size = c.loop-k.invariant.1 in omega (arith, ints, below, size)

pub overflow_mul-size : goal.overflow_mul-size
overflow_mul-size c =
    let below = size_below c.args.itemsize (c.loop-k.k - 1) c.args.dims.now c.requires.entries c.requires.fits in
    let next = next_size c.args.itemsize c.loop-k.k c.args.dims.now c.loop-k-test.true c.loop-k.invariant.0 in
    let size = c.loop-k.invariant.1 in
    let product : c.loop-k.size * (dim_at c.args.dims.now (c.loop-k.k - 1)).0 < 2 ^ 63 = rw size (rw next below) in
    omega (arith, product)

pub loop-k-preserved : goal.loop-k-preserved
loop-k-preserved c =
    elim c.if-shape-gt1.branch [
      | then-shape-gt1+else-dims-k w ↦
          let f : SFits w64 (dim_at c.args.dims.now (c.loop-k.k - 1)).1 = search rules in
          let below = size_below c.args.itemsize c.loop-k.k c.args.dims.now c.requires.entries c.requires.fits in
          let size : c.loop-k.size ≡ c.args.itemsize * product (shape_of (drop c.loop-k.k c.args.dims.now)) = c.loop-k.invariant.1 in
          let fits : c.loop-k.size < 2 ^ 63 = omega (arith, below, size) in
          let stride : (dim_at c.args.dims.now (c.loop-k.k - 1)).1 ≡ pos (c.args.itemsize * product (shape_of (drop c.loop-k.k c.args.dims.now))) =
          sym (to_z-of_z w64 (dim_at c.args.dims.now (c.loop-k.k - 1)).1 f) ∙ ap (to_z w64) w.if-dims-k.false ∙ to_z_pos w64 c.loop-k.size fits ∙ ap (λ n. pos n) size in (
            omega (arith, c.loop-k.invariant.0),
            w.size-is ∙ ap (λ n. n * (dim_at c.args.dims.now (c.loop-k.k - 1)).0) size ∙ next_size c.args.itemsize c.loop-k.k c.args.dims.now c.loop-k-test.true c.loop-k.invariant.0,
            strides_step c.args.itemsize c.loop-k.k c.args.dims.now c.loop-k-test.true c.loop-k.invariant.0 (λ _. stride) c.loop-k.invariant.2,
          )
      | else-shape-gt1 w ↦
          let few : (dim_at c.args.dims.now (c.loop-k.k - 1)).0 ≤ 1 = w.if-shape-gt1.false in
          let alone = entry_alone c.args.itemsize c.loop-k.k c.args.dims.now c.loop-k-test.true c.loop-k.invariant.0 c.requires.entries (λ more. omega (arith, more, few)) in (
            omega (arith, c.loop-k.invariant.0),
            w.size-is ∙ c.loop-k.invariant.1 ∙ alone.0,
            alone.1 c.loop-k.invariant.2,
          )
    ]
