use Rattle.std.proofs.Common.{◌≡◌, ◌<◌, length, true, false, ap, ap₂, sym, ◌∙◌, subst}
use Rattle.std.specs.Prelude.{All}
use Rattle.pybuf_desc.specs.Descriptor.{shape_of}
use Rattle.pybuf_memoryview.specs.Orders.{has_zero_entry}
use Rattle.pybuf_memoryview.specs.Snaps.{snap_of_layout}
use Rattle.pybuf_equality.specs.Equality.{shapes_agree}
use Rattle.pybuf_equality.proofs.Filled.{answered_so, entries_some, packed_compared}
use Rattle.pybuf_equality.proofs.Same.{as_many_as, shapes_same, without_items}
use Rattle.pybuf_equality.proofs.view_and_bytes.equal_to_content.Goals as goal

pub returns-then-has_zero : goal.returns-then-has_zero
returns-then-has_zero c =
    let agree : shapes_agree c.args.layout.now.shape c.args.snap.now.shape ≡ true =
    ap₂ shapes_agree (sym (ap shape_of c.dim_desc.ensures ∙ c.placed.ensures.stands.shape)) (sym c.as_slice.ensures) ∙ sym c.entries_agree.ensures ∙ c.if-not-entries_agree.false in
    let long : length c.args.layout.now.shape ≡ length c.args.snap.now.shape =
    as_many_as c.placed.result.0.now.dims c.args.layout.now.shape c.args.snap.now.shape c.placed.ensures.stands.shape (sym c.ndim.ensures ∙ c.if-ndim-len.false ∙ c.len.ensures.value) in
    without_items (snap_of_layout c.args.bytes.now c.args.layout.now false) c.args.snap.now long agree (sym c.has_zero.ensures ∙ c.if-has_zero.true)

pub packed_layout-requires-clause-entries : goal.packed_layout-requires-clause-entries
packed_layout-requires-clause-entries c =
    let agree : shapes_agree c.args.layout.now.shape c.args.snap.now.shape ≡ true =
    ap₂ shapes_agree (sym (ap shape_of c.dim_desc.ensures ∙ c.placed.ensures.stands.shape)) (sym c.as_slice.ensures) ∙ sym c.entries_agree.ensures ∙ c.if-not-entries_agree.false in
    let none : has_zero_entry c.args.layout.now.shape ≡ false = sym c.has_zero.ensures ∙ c.if-has_zero.false in
    subst (All (λ n. 0 < n)) (shapes_same c.args.layout.now.shape c.args.snap.now.shape agree none ∙ sym c.as_slice-2.ensures) (entries_some c.args.layout.now.shape none)

pub returns : goal.returns
returns c =
    answered_so c.equal_views.result _ _ c.equal_views.ensures
    (packed_compared (snap_of_layout c.args.bytes.now c.args.layout.now false) c.args.snap.now c.as_slice-content.result.now c.as_slice-2.result.now c.in_ok-other.other c.as_slice-content.ensures c.as_slice-2.ensures c.in_ok-other.ensures)
