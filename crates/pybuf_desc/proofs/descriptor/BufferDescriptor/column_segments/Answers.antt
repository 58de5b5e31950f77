use Rattle.std.proofs.Common.{◌≡◌, length, reverse, take, map, flat_map, pos, sym, ◌∙◌, ap, ap₂, subst, ℕ, ℤ, List, true≢false}
use Rattle.std.specs.declared.ops.Range.{Range}
use Rattle.pybuf_desc.specs.Layouts.{product}
use Rattle.pybuf_desc.specs.Descriptor.{shape_of}
use Rattle.pybuf_desc.specs.Places.{places}
use Rattle.pybuf_desc.specs.Segments.{range_at, bytes_of}
use Rattle.pybuf_desc.specs.ColumnSegments.{AreColumns}
use Rattle.pybuf_desc.proofs.Products.{AreNonzero, AreNonzero-from_All, All-from_no_zero, product-zero}
use Rattle.pybuf_desc.proofs.ColumnWalks.{places_turned, columns_of, columns_none, column_bytes}
use Rattle.pybuf_desc.proofs.descriptor.BufferDescriptor.column_segments.Goals as goal

pub returns-then-has_zero-clause-ranges : goal.returns-then-has_zero-clause-ranges
returns-then-has_zero-clause-ranges c =
    let none : product (shape_of c.args.self.now.dims) ≡ 0 =
    subst (λ (ds : List (ℕ × ℤ × ℤ)). product (shape_of ds) ≡ 0) c.dim_desc-dims.ensures (product-zero c.dim_desc-dims.result.now (c.has_zero.ensures.0 c.if-has_zero.true)) in
    c.no_columns.ensures ∙ columns_none c.args.self.now (pos c.args.start) none

pub returns-then-has_zero-clause-bytes : goal.returns-then-has_zero-clause-bytes
returns-then-has_zero-clause-bytes c = ap (λ (xs : List (Range ℕ)). flat_map bytes_of xs) (returns-then-has_zero-clause-ranges c) ∙ column_bytes c.args.self.now (pos c.args.start)

pub walk_columns-requires-clause-columns : goal.walk_columns-requires-clause-columns
walk_columns-requires-clause-columns c =
    let some : AreNonzero c.args.self.now.dims = subst AreNonzero c.dim_desc-dims.ensures (AreNonzero-from_All c.dim_desc-dims.result.now (All-from_no_zero c.dim_desc-dims.result.now (λ zero. true≢false (sym (c.if-has_zero.ensures.1 zero))))) in
    let is : take (length c.dim_desc-dims.result.now) c.last_first.result ≡ reverse c.args.self.now.dims = c.last_first.ensures ∙ ap reverse c.dim_desc-dims.ensures in
    subst (λ (size : ℕ). AreColumns (take (length c.dim_desc-dims.result.now) c.last_first.result) c.args.start size) (sym c.itemsize-size.ensures)
    (subst (λ (ds : List (ℕ × ℤ × ℤ)). AreColumns ds c.args.start c.args.self.now.itemsize) (sym is) (columns_of c.args.self.now c.args.start c.requires some))

pub returns-clause-ranges : goal.returns-clause-ranges
returns-clause-ranges c =
    let is : take (length c.dim_desc-dims.result.now) c.last_first.result ≡ reverse c.args.self.now.dims = c.last_first.ensures ∙ ap reverse c.dim_desc-dims.ensures in
    c.walk_columns.ensures ∙ ap₂ (λ (n : ℕ) (ds : List (ℕ × ℤ × ℤ)). map (range_at n) (places ds (pos c.args.start))) c.itemsize-size.ensures is
    ∙ ap (λ (ps : List ℤ). map (range_at c.args.self.now.itemsize) ps) (places_turned c.args.self.now.dims (pos c.args.start))

pub returns-clause-bytes : goal.returns-clause-bytes
returns-clause-bytes c = ap (λ (xs : List (Range ℕ)). flat_map bytes_of xs) (returns-clause-ranges c) ∙ column_bytes c.args.self.now (pos c.args.start)
