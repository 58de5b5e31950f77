use Rattle.std.proofs.Common.{sym}
use Rattle.pybuf_desc.specs.Places.{layout_at}
use Rattle.pybuf_memoryview.proofs.kept.KeptLayout.columns.Goals as goal

pub invariant_of-result : goal.invariant_of-result
invariant_of-result c = record {
  room = c.self.invariant.room;
  room_fits = c.self.invariant.room_fits;
  valid = c.in_ok-descriptor.ensures.valid c.self.inside.start c.self.invariant.room c.self.invariant.valid;
}

pub returns : goal.returns
returns c =
    let d = c.self.inside.descriptor in
    let start = c.self.inside.start in
    rw (sym c.self.view_is) (sym (c.descriptors_stand_for_one_view.ensures _ _ _
    (c.in_ok-descriptor.ensures.stands start (layout_at d start) (c.placed_descriptors_stand.ensures d start c.self.invariant))))
