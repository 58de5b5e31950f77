use Rattle.std.proofs.Common.{◌≡◌, ◌*◌, ℕ, List, length, map, sym, ◌∙◌, ap, ap₂}
use Rattle.std.specs.List.{flat_map}
use Rattle.std.specs.declared.ops.Range.{Range}
use Rattle.pybuf_slice.specs.Reads.{elements_at}
use Rattle.pybuf_desc.specs.Layouts.{product}
use Rattle.pybuf_desc.specs.Items.{content_of_layout}
use Rattle.pybuf_desc.specs.Segments.{bytes_of}
use Rattle.pybuf_memoryview.specs.Orders.{nbytes_of}
use Rattle.pybuf_verbs_writes.specs.LaidBytes.{put_at}
use Rattle.pybuf_verbs_writes.proofs.Laying.{laid_by_ranges, places_inside, content_of_ranges}
use Rattle.pybuf_verbs_writes.proofs.Widths.{pairs_are_alike}
use Rattle.pybuf_verbs_writes.proofs.laid.lay_across.Goals as goal

pub zip_segments-requires-clause-same_shape : goal.zip_segments-requires-clause-same_shape
zip_segments-requires-clause-same_shape c = c.placed-start.ensures.stands.shape ∙ c.requires.same_shape ∙ sym c.placed-lent_start.ensures.stands.shape

pub lay_pairs-requires : goal.lay_pairs-requires
lay_pairs-requires c = record {
  inside = places_inside c.item_bytes_lie_inside.ensures c.args.bytes.now c.placed-start.result.0.now c.placed-start.result.1 c.args.layout.now (map (λ pair. pair.0) c.zip_segments.result) c.placed-start.ensures.stands c.zip_segments.ensures.bytes c.requires.inside;
  source_inside = places_inside c.item_bytes_lie_inside.ensures c.args.lender.now c.placed-lent_start.result.0.now c.placed-lent_start.result.1 c.args.source.now (map (λ pair. pair.1) c.zip_segments.result) c.placed-lent_start.ensures.stands c.zip_segments.ensures.other_bytes c.requires.source_inside;
  alike = pairs_are_alike c.placed-start.result.0.now c.placed-lent_start.result.0.now _ _ _ c.zip_segments.result
      (c.placed-start.ensures.stands.shape ∙ c.requires.same_shape ∙ sym c.placed-lent_start.ensures.stands.shape)
      (c.placed-start.ensures.stands.itemsize ∙ c.requires.same_size ∙ sym c.placed-lent_start.ensures.stands.itemsize)
      c.zip_segments.ensures.first c.zip_segments.ensures.second;
}

pub returns : goal.returns
returns c =
    let bytes : List ℕ = c.args.bytes.now in
    let lender : List ℕ = c.args.lender.now in
    let ranges : List (Range ℕ) = map (λ pair. pair.0) c.zip_segments.result in
    let read : elements_at lender (flat_map bytes_of (map (λ pair. pair.1) c.zip_segments.result)) ≡ content_of_layout lender c.args.source.now =
    content_of_ranges c.item_bytes_are_the_content.ensures lender c.placed-lent_start.result.0.now c.placed-lent_start.result.1 c.args.source.now (map (λ pair. pair.1) c.zip_segments.result) c.placed-lent_start.ensures.stands c.zip_segments.ensures.other_bytes in
    let long : length (content_of_layout lender c.args.source.now) ≡ nbytes_of c.args.layout.now =
    c.contents_are_whole.ensures lender c.args.source.now c.requires.source_inside
    ∙ ap₂ (λ (size n : ℕ). size * n) (sym c.requires.same_size) (c.placed-lent_start.ensures.counted ∙ ap product (sym c.requires.same_shape)) in
    c.lay_pairs.ensures
    ∙ ap (put_at bytes (flat_map bytes_of ranges)) read
    ∙ laid_by_ranges bytes (content_of_layout lender c.args.source.now) c.placed-start.result.0.now c.placed-start.result.1 c.args.layout.now ranges c.placed-start.ensures.stands c.placed-start.ensures.counted c.zip_segments.ensures.bytes c.requires.inside long
