use Rattle.std.proofs.Common.{◌≡◌, ◌<◌, ◌*◌, ◌-◌, ◌^◌, pos, arith, rules, ap, sym, ◌∙◌, SFits, w64, to_z, of_z, true, false, true≢false, drop}
use Rattle.std.proofs.lemmas.Int.{ints, to_z-of_z, to_z_pos}
use Rattle.pybuf_desc.specs.Layouts.{product}
use Rattle.pybuf_desc.specs.Descriptor.{shape_of}
use Rattle.pybuf_desc.proofs.Moves.{dim_at}
use Rattle.pybuf_desc.proofs.Strides.{size_below, next_size, strides_step, strides_fail}
use Rattle.pybuf_desc.proofs.contiguous.has_row_major_strides.Goals as goal

pub overflow_cast-size : goal.overflow_cast-size
overflow_cast-size c =
    let below = size_below c.args.itemsize c.loop-k.k c.args.dims.now c.requires.entries c.requires.fits in
    let size = c.loop-k.invariant.1 in omega (arith, ints, below, size)

pub returns-then-dims-k : goal.returns-then-dims-k
returns-then-dims-k c = (
  λ (wrong : false ≡ true). absurd (true≢false (sym wrong)),
  λ fit.
      absurd (strides_fail c.args.itemsize c.loop-k.k c.args.dims.now c.loop-k-test.true c.loop-k.invariant.0 c.if-shape-gt1.true
      (λ e. c.if-dims-k.true (ap (of_z w64) e ∙ sym c.loop-k.invariant.1)) fit),
)

pub overflow_mul-size : goal.overflow_mul-size
overflow_mul-size c =
    let below = size_below c.args.itemsize (c.loop-k.k - 1) c.args.dims.now c.requires.entries c.requires.fits in
    let next = next_size c.args.itemsize c.loop-k.k c.args.dims.now c.loop-k-test.true c.loop-k.invariant.0 in
    let size = c.loop-k.invariant.1 in
    let product : c.loop-k.size * (dim_at c.args.dims.now (c.loop-k.k - 1)).0 < 2 ^ 63 = rw size (rw next below) in
    omega (arith, product)

pub loop-k-preserved-then-shape-gt1 : goal.loop-k-preserved-then-shape-gt1
loop-k-preserved-then-shape-gt1 c =
    let f : SFits w64 (dim_at c.args.dims.now (c.loop-k.k - 1)).1 = search rules in
    let below = size_below c.args.itemsize c.loop-k.k c.args.dims.now c.requires.entries c.requires.fits in
    let size : c.loop-k.size ≡ c.args.itemsize * product (shape_of (drop c.loop-k.k c.args.dims.now)) = c.loop-k.invariant.1 in
    let fits : c.loop-k.size < 2 ^ 63 = omega (arith, below, size) in
    let stride : (dim_at c.args.dims.now (c.loop-k.k - 1)).1 ≡ pos (c.args.itemsize * product (shape_of (drop c.loop-k.k c.args.dims.now))) =
    sym (to_z-of_z w64 (dim_at c.args.dims.now (c.loop-k.k - 1)).1 f) ∙ ap (to_z w64) c.if-dims-k.false ∙ to_z_pos w64 c.loop-k.size fits ∙ ap (λ n. pos n) size in (
      omega (arith, c.loop-k.invariant.0),
      ap (λ n. n * (dim_at c.args.dims.now (c.loop-k.k - 1)).0) size ∙ next_size c.args.itemsize c.loop-k.k c.args.dims.now c.loop-k-test.true c.loop-k.invariant.0,
      strides_step c.args.itemsize c.loop-k.k c.args.dims.now c.loop-k-test.true c.loop-k.invariant.0 (λ _. stride) c.loop-k.invariant.2,
    )
