use Rattle.std.proofs.Common.{◌+◌, sym, le_refl}
use Rattle.pybuf_memoryview.proofs.kept.KeptLayout.range.Goals as goal

pub invariant_of-result : goal.invariant_of-result
invariant_of-result c = record {
  room = c.args.start + c.args.count;
  room_fits = c.requires;
  valid = c.in_ok-descriptor.ensures.valid_from c.args.start (c.args.start + c.args.count) (le_refl (c.args.start + c.args.count));
}

pub returns : goal.returns
returns c = sym (c.descriptors_stand_for_one_view.ensures _ _ _ (c.in_ok-descriptor.ensures.stands_from c.args.start))
