use Rattle.std.proofs.Common.{sym}
use Rattle.pybuf_nd.specs.Selections.{selection_of}
use Rattle.pybuf_desc.specs.Places.{layout_at}
use Rattle.example_picture.proofs.parts.selected.Goals as goal

pub returns-clause-view : goal.returns-clause-view
returns-clause-view c =
    let d = c.args.desc.now in
    sym (c.descriptors_stand_for_one_view.ensures _ _ (selection_of (layout_at d c.args.start) c.args.slices.now) ((rw (c.in-Done.is) at c.in_ok-made.ensures.stands) (layout_at d c.args.start) (c.placed_descriptors_stand.ensures d c.args.start c.requires.placed)))
