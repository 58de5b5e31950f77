use Rattle.std.proofs.Common.{◌<◌, ◌*◌, pos, true, refl, sym, ◌∙◌, subst, All, ◌^◌, IsTrue, ◌↔◌}
use Rattle.pybuf_desc.specs.Layouts.{product}
use Rattle.pybuf_desc.specs.Descriptor.{shape_of}
use Rattle.pybuf_desc.specs.RowMajor.{IsContiguous}
use Rattle.pybuf_desc.specs.ColumnMajor.{column_places, AreColumnMajorStrides}
use Rattle.pybuf_desc.proofs.Strides.{entries_of, bytes_fit, no_item, All-from_AreNonzero}
use Rattle.pybuf_desc.proofs.ColumnRuns.{column_without_items, column_by_strides}
use Rattle.pybuf_desc.proofs.ColumnViews.{told_by_column_places}
use Rattle.pybuf_desc.proofs.descriptor.BufferDescriptor.is_f_contiguous.Goals as goal

pub returns-then-len-eq0-clause-places : goal.returns-then-len-eq0-clause-places
returns-then-len-eq0-clause-places c = λ start.
    (λ _. column_without_items c.args.self.now.itemsize c.args.self.now.dims start (no_item c.args.self.now c.requires (sym c.len.ensures ∙ c.if-len-eq0.true)), λ _. refl)

pub returns-then-len-eq0-clause-view : goal.returns-then-len-eq0-clause-view
returns-then-len-eq0-clause-view c = λ start view stands.
    told_by_column_places c.args.self.now start view true stands
    ((λ _. column_without_items c.args.self.now.itemsize c.args.self.now.dims (pos start) (no_item c.args.self.now c.requires (sym c.len.ensures ∙ c.if-len-eq0.true))), λ _. refl)

pub has_column_major_strides-requires-clause-entries : goal.has_column_major_strides-requires-clause-entries
has_column_major_strides-requires-clause-entries c =
    subst (λ dims. All (λ dim. 0 < dim.0) dims) (sym c.dim_desc.ensures)
    (All-from_AreNonzero c.args.self.now.dims (entries_of c.args.self.now c.requires (λ e. c.if-len-eq0.false (c.len.ensures ∙ e))))

pub has_column_major_strides-requires-clause-fits : goal.has_column_major_strides-requires-clause-fits
has_column_major_strides-requires-clause-fits c =
    subst (λ size. size * product (shape_of c.dim_desc.result.now) < 2 ^ 63) (sym c.itemsize.ensures)
    (subst (λ dims. c.args.self.now.itemsize * product (shape_of dims) < 2 ^ 63) (sym c.dim_desc.ensures)
    (bytes_fit c.args.self.now c.requires (entries_of c.args.self.now c.requires (λ e. c.if-len-eq0.false (c.len.ensures ∙ e)))))

pub returns-clause-places : goal.returns-clause-places
returns-clause-places c = λ start.
    let strides : IsTrue c.has_column_major_strides.result ↔ AreColumnMajorStrides c.args.self.now.itemsize c.args.self.now.dims =
    subst (λ size. IsTrue c.has_column_major_strides.result ↔ AreColumnMajorStrides size c.args.self.now.dims) c.itemsize.ensures
    (subst (λ dims. IsTrue c.has_column_major_strides.result ↔ AreColumnMajorStrides c.itemsize.result dims) c.dim_desc.ensures c.has_column_major_strides.ensures) in
    let places_too : AreColumnMajorStrides c.args.self.now.itemsize c.args.self.now.dims ↔ IsContiguous c.args.self.now.itemsize start (column_places c.args.self.now.dims start) =
    column_by_strides c.args.self.now.itemsize c.args.self.now.dims start (entries_of c.args.self.now c.requires (λ e. c.if-len-eq0.false (c.len.ensures ∙ e))) in
    (λ h. places_too.0 (strides.0 h), λ h. strides.1 (places_too.1 h))

pub returns-clause-view : goal.returns-clause-view
returns-clause-view c = λ start view stands.
    told_by_column_places c.args.self.now start view c.has_column_major_strides.result stands (returns-clause-places c (pos start))
