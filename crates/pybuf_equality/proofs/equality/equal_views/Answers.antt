use Rattle.std.proofs.Common.{◌≡◌, length, true, false, ap, ap₂, sym, ◌∙◌}
use Rattle.pybuf_desc.specs.Descriptor.{shape_of}
use Rattle.pybuf_memoryview.specs.Snaps.{snap_of_layout}
use Rattle.pybuf_equality.specs.Equality.{shapes_agree, same_items}
use Rattle.pybuf_equality.proofs.Cut.{layout_items}
use Rattle.pybuf_equality.proofs.Filled.{answered_so}
use Rattle.pybuf_equality.proofs.Same.{as_many_entries, shapes_same, without_items, by_items}
use Rattle.pybuf_equality.proofs.equality.equal_views.Goals as goal

pub returns-then-has_zero : goal.returns-then-has_zero
returns-then-has_zero c =
    let one = c.placed.result.0.now in
    let two = c.placed-2.result.0.now in
    let shape = c.placed.ensures.stands.shape in
    let other_shape = c.placed-2.ensures.stands.shape in
    let long : length c.args.layout.now.shape ≡ length c.args.other_layout.now.shape =
    as_many_entries one.dims two.dims c.args.layout.now.shape c.args.other_layout.now.shape shape other_shape (sym c.ndim.ensures ∙ c.if-ndim.false ∙ c.ndim-2.ensures) in
    let agree : shapes_agree c.args.layout.now.shape c.args.other_layout.now.shape ≡ true =
    ap₂ shapes_agree (sym (ap shape_of c.dim_desc.ensures ∙ shape)) (sym (ap shape_of c.dim_desc-2.ensures ∙ other_shape)) ∙ sym c.dims_agree.ensures ∙ c.if-not-dims_agree.false in
    without_items (snap_of_layout c.args.bytes.now c.args.layout.now false) (snap_of_layout c.args.other.now c.args.other_layout.now false) long agree (sym c.has_zero.ensures ∙ c.if-has_zero.true)

pub equal_items-requires-clause-same_shape : goal.equal_items-requires-clause-same_shape
equal_items-requires-clause-same_shape c =
    let shape = c.placed.ensures.stands.shape in
    let other_shape = c.placed-2.ensures.stands.shape in
    let agree : shapes_agree c.args.layout.now.shape c.args.other_layout.now.shape ≡ true =
    ap₂ shapes_agree (sym (ap shape_of c.dim_desc.ensures ∙ shape)) (sym (ap shape_of c.dim_desc-2.ensures ∙ other_shape)) ∙ sym c.dims_agree.ensures ∙ c.if-not-dims_agree.false in
    shapes_same c.args.layout.now.shape c.args.other_layout.now.shape agree (sym c.has_zero.ensures ∙ c.if-has_zero.false)

pub returns : goal.returns
returns c =
    let one = c.placed.result.0.now in
    let two = c.placed-2.result.0.now in
    let shape = c.placed.ensures.stands.shape in
    let other_shape = c.placed-2.ensures.stands.shape in
    let long : length c.args.layout.now.shape ≡ length c.args.other_layout.now.shape =
    as_many_entries one.dims two.dims c.args.layout.now.shape c.args.other_layout.now.shape shape other_shape (sym c.ndim.ensures ∙ c.if-ndim.false ∙ c.ndim-2.ensures) in
    let agree : shapes_agree c.args.layout.now.shape c.args.other_layout.now.shape ≡ true =
    ap₂ shapes_agree (sym (ap shape_of c.dim_desc.ensures ∙ shape)) (sym (ap shape_of c.dim_desc-2.ensures ∙ other_shape)) ∙ sym c.dims_agree.ensures ∙ c.if-not-dims_agree.false in
    answered_so c.equal_items.result _ _ c.equal_items.ensures
    (sym (by_items (snap_of_layout c.args.bytes.now c.args.layout.now false) (snap_of_layout c.args.other.now c.args.other_layout.now false) long agree
    ∙ ap₂ same_items (layout_items c.args.bytes.now c.args.layout.now c.requires.inside c.placed.ensures.counted)
    (layout_items c.args.other.now c.args.other_layout.now c.requires.other_inside c.placed-2.ensures.counted)))
