use Rattle.std.proofs.Common.{sym, ap₂, ◌∙◌, subst, [], ◌∷◌, List, ℕ}
use Rattle.pybuf_desc.specs.Layouts.{Layout, LiesInside}
use Rattle.pybuf_desc.specs.Descriptor.{Descriptor}
use Rattle.pybuf_desc.specs.Valid.{IsValid}
use Rattle.pybuf_desc.specs.Places.{layout_at}
use Rattle.pybuf_desc.specs.ShapedCasts.{cast_to}
use Rattle.example_picture.specs.Parts.{IsWhole}
use Rattle.example_picture.specs.Cuts.{part_of}
use Rattle.example_picture.proofs.PartLemmas.{contiguous_whole, whole_inside, whole_shows}
use Rattle.example_picture.proofs.parts.whole_part.Goals as goal

pub cast_shape-requires-clause-contiguous : goal.cast_shape-requires-clause-contiguous
cast_shape-requires-clause-contiguous c = contiguous_whole c.args.count c.in_ok-bytes.bytes c.in_ok-bytes.ensures

pub returns-clause-valid : goal.returns-clause-valid
returns-clause-valid c =
    let a = c.args in
    let placed = c.placed-start in
    let is = c.in_ok-view.ensures ∙ ap₂ (λ (l : Layout) (f : List ℕ). cast_to l f 1 (a.rows ∷ a.columns ∷ a.channels ∷ [])) c.in_ok-bytes.ensures c.of_bytes.ensures in
    subst (λ (d : Descriptor). IsValid d placed.result.1 a.count) (sym c.in_ok-copy.ensures)
    ((c.valid_where_items_lie_inside.ensures placed.result.0.now placed.result.1 a.count c.in_ok-view.view placed.ensures.placed placed.ensures.stands).0
    (subst (LiesInside a.count) (sym is) (whole_inside c.shaped_casts_stay_inside.ensures a.count a.rows a.columns a.channels c.requires.count)))

pub returns-clause-part : goal.returns-clause-part
returns-clause-part c =
    let a = c.args in
    let placed = c.placed-start in
    let is = c.in_ok-view.ensures ∙ ap₂ (λ (l : Layout) (f : List ℕ). cast_to l f 1 (a.rows ∷ a.columns ∷ a.channels ∷ [])) c.in_ok-bytes.ensures c.of_bytes.ensures in
    let same = sym (c.descriptors_stand_for_one_view.ensures placed.result.0.now placed.result.1 c.in_ok-view.view placed.ensures.stands) ∙ is in
    subst (λ (d : Descriptor). IsWhole a.rows a.columns a.channels (part_of (layout_at d placed.result.1))) (sym c.in_ok-copy.ensures)
    (subst (λ (l : Layout). IsWhole a.rows a.columns a.channels (part_of l)) (sym same) (whole_shows a.count a.rows a.columns a.channels c.requires.count c.requires.some_row c.requires.some_column c.requires.some_channel))
