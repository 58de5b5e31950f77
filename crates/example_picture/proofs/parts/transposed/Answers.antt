use Rattle.std.proofs.Common.{sym, ap, ◌∙◌, length}
use Rattle.std.proofs.lemmas.List.{length-map}
use Rattle.pybuf_desc.specs.Places.{layout_at}
use Rattle.example_picture.proofs.PartLemmas.{swap_axes, swapped}
use Rattle.example_picture.proofs.parts.transposed.Goals as goal

pub permute-requires-clause-each_once : goal.permute-requires-clause-each_once
permute-requires-clause-each_once c =
    swap_axes _ (sym (length-map c.args.desc.now.dims (λ dim. dim.0)) ∙ ap length c.requires.frame.shape)

pub returns-clause-valid : goal.returns-clause-valid
returns-clause-valid c = λ room valid. (rw (c.in-Done.is) at c.in_ok-made.ensures.valid) c.args.start room valid

pub returns-clause-view : goal.returns-clause-view
returns-clause-view c =
    let d = c.args.desc.now in
    sym (c.descriptors_stand_for_one_view.ensures _ _ (swapped (layout_at d c.args.start)) ((rw (c.in-Done.is) at c.in_ok-made.ensures.stands) c.args.start (layout_at d c.args.start) (c.placed_descriptors_stand.ensures d c.args.start c.requires.placed)))
