use Rattle.std.proofs.Common.{sym, ap, ◌∙◌, subst, List}
use Rattle.pybuf_lemmas.proofs.Results.{if_ok_follows}
use Rattle.pybuf_index.specs.Parts.{SliceParts}
use Rattle.pybuf_desc.specs.Layouts.{Layout}
use Rattle.pybuf_desc.specs.Places.{layout_at}
use Rattle.pybuf_nd.specs.Selections.{selection_of}
use Rattle.example_picture.specs.Parts.{IsFlipped}
use Rattle.example_picture.specs.Cuts.{part_of, IsFrame, IsSome}
use Rattle.example_picture.proofs.PartLemmas.{slices_listed, flip_some, flip_frame, flip_shows}
use Rattle.example_picture.proofs.parts.flipped_part.Goals as goal

pub selected-requires-clause-some : goal.selected-requires-clause-some
selected-requires-clause-some c =
    let view = layout_at c.args.desc.now c.args.start in
    let are = slices_listed _ _ _ _ _ _ c.slice.ensures c.slice-2.ensures c.slice-3.ensures in
    subst (λ (slices : List SliceParts). IsSome view.shape slices) (sym are) (flip_some view c.requires.frame)

pub returns-clause-frame : goal.returns-clause-frame
returns-clause-frame c =
    let view = layout_at c.args.desc.now c.args.start in
    let are = slices_listed _ _ _ _ _ _ c.slice.ensures c.slice-2.ensures c.slice-3.ensures in
    if_ok_follows c.selected.result _ _ (λ made is. subst IsFrame (sym (is ∙ ap (selection_of view) are)) (flip_frame c.views_go_by_indices.ensures view c.requires.frame)) c.selected.ensures.view

pub returns-clause-part : goal.returns-clause-part
returns-clause-part c =
    let view = layout_at c.args.desc.now c.args.start in
    let are = slices_listed _ _ _ _ _ _ c.slice.ensures c.slice-2.ensures c.slice-3.ensures in
    if_ok_follows c.selected.result _ _ (λ made is. subst (λ (l : Layout). IsFlipped (part_of view) (part_of l)) (sym (is ∙ ap (selection_of view) are)) (flip_shows c.views_go_by_indices.ensures view c.requires.frame)) c.selected.ensures.view
