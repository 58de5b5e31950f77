use Rattle.pybuf_verbs_views.proofs.Safe.{range_safe}
use Rattle.pybuf_verbs_views.proofs.laws.range_is_safe.Goals as goal

pub returns : goal.returns
returns c = range_safe c.new_views_keep.ensures c.part_layouts_are_sound.ensures c.whole_layouts_lie_apart.ensures
