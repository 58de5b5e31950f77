use Rattle.std.proofs.Common.{◌≡◌, ◌-◌, ◌*◌, ◌<◌, ◌^◌, length, sym, ◌∙◌, ap₂, subst, arith, ℕ, ℤ, List, true≢false}
use Rattle.pybuf_desc.specs.Layouts.{product}
use Rattle.pybuf_desc.specs.Descriptor.{shape_of, strides_of}
use Rattle.pybuf_desc.specs.Tails.{tail_of, tail_of_strides}
use Rattle.pybuf_desc.proofs.Products.{AreNonzero, AreNonzero-from_All, All-from_no_zero}
use Rattle.pybuf_desc.proofs.Strides.{bytes_fit}
use Rattle.pybuf_desc.proofs.Tails.{tail_found}
use Rattle.pybuf_desc.proofs.descriptor.BufferDescriptor.tail.Goals as goal

pub dims_before_tail-requires-clause-fits : goal.dims_before_tail-requires-clause-fits
dims_before_tail-requires-clause-fits c =
    let some : AreNonzero c.args.self.now.dims = subst AreNonzero c.dim_desc-dims.ensures (AreNonzero-from_All c.dim_desc-dims.result.now (All-from_no_zero c.dim_desc-dims.result.now (λ zero. true≢false (sym (c.if-has_zero.ensures.1 zero))))) in
    subst (λ size. size * product (shape_of c.dim_desc-dims.result.now) < 2 ^ 63) (sym c.itemsize.ensures)
    (subst (λ dims. c.args.self.now.itemsize * product (shape_of dims) < 2 ^ 63) (sym c.dim_desc-dims.ensures) (bytes_fit c.args.self.now c.requires some))

pub returns-clause-few : goal.returns-clause-few
returns-clause-few c =
    let same : length c.dim_desc-dims.result.now - c.dims_before_tail.result ≡ tail_of c.args.self.now =
    tail_found c.itemsize.result c.dims_before_tail.result c.dim_desc-dims.result.now c.dims_before_tail.ensures.few c.dims_before_tail.ensures.packed c.dims_before_tail.ensures.greatest
    ∙ ap₂ (λ (size : ℕ) (ds : List (ℕ × ℤ × ℤ)). tail_of_strides size (shape_of ds) (strides_of ds)) c.itemsize.ensures c.dim_desc-dims.ensures in
    omega (arith, same)

pub returns-clause-whole : goal.returns-clause-whole
returns-clause-whole c = λ some.
    tail_found c.itemsize.result c.dims_before_tail.result c.dim_desc-dims.result.now c.dims_before_tail.ensures.few c.dims_before_tail.ensures.packed c.dims_before_tail.ensures.greatest
    ∙ ap₂ (λ (size : ℕ) (ds : List (ℕ × ℤ × ℤ)). tail_of_strides size (shape_of ds) (strides_of ds)) c.itemsize.ensures c.dim_desc-dims.ensures
