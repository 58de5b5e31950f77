use Rattle.std.proofs.Common.{sym, ap, ◌∙◌, subst, List}
use Rattle.pybuf_lemmas.proofs.Results.{if_ok_follows}
use Rattle.pybuf_index.specs.Parts.{SliceParts}
use Rattle.pybuf_desc.specs.Layouts.{Layout}
use Rattle.pybuf_desc.specs.Places.{layout_at}
use Rattle.pybuf_nd.specs.Selections.{selection_of}
use Rattle.example_picture.specs.Parts.{IsCropped}
use Rattle.example_picture.specs.Cuts.{part_of, IsFrame, IsSome}
use Rattle.example_picture.proofs.PartLemmas.{slices_listed, crop_some, crop_frame, crop_shows}
use Rattle.example_picture.proofs.parts.cropped_part.Goals as goal

pub selected-requires-clause-some : goal.selected-requires-clause-some
selected-requires-clause-some c =
    let view = layout_at c.args.desc.now c.args.start in
    let are = slices_listed _ _ _ _ _ _ c.between.ensures c.between-2.ensures c.slice.ensures in
    let r = c.requires in
    subst (λ (slices : List SliceParts). IsSome view.shape slices) (sym are) (crop_some view r.frame c.args.rows c.args.columns r.some_row r.row r.some_column r.column)

pub returns-clause-frame : goal.returns-clause-frame
returns-clause-frame c =
    let view = layout_at c.args.desc.now c.args.start in
    let are = slices_listed _ _ _ _ _ _ c.between.ensures c.between-2.ensures c.slice.ensures in
    let r = c.requires in
    if_ok_follows c.selected.result _ _ (λ made is. subst IsFrame (sym (is ∙ ap (selection_of view) are)) (crop_frame view r.frame c.args.rows c.args.columns r.some_row r.row r.some_column r.column c.views_go_by_indices.ensures)) c.selected.ensures.view

pub returns-clause-part : goal.returns-clause-part
returns-clause-part c =
    let view = layout_at c.args.desc.now c.args.start in
    let are = slices_listed _ _ _ _ _ _ c.between.ensures c.between-2.ensures c.slice.ensures in
    let r = c.requires in
    if_ok_follows c.selected.result _ _ (λ made is. subst (λ (l : Layout). IsCropped (part_of view) c.args.rows c.args.columns (part_of l)) (sym (is ∙ ap (selection_of view) are)) (crop_shows view r.frame c.args.rows c.args.columns r.some_row r.row r.some_column r.column c.views_go_by_indices.ensures)) c.selected.ensures.view
