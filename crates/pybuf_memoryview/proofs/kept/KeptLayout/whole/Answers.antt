use Rattle.std.proofs.Common.{sym}
use Rattle.pybuf_memoryview.proofs.kept.KeptLayout.whole.Goals as goal

pub returns : goal.returns
returns c = sym (c.descriptors_stand_for_one_view.ensures _ _ _ c.in_ok-descriptor.ensures.stands)
