use Rattle.pybuf_verbs_views.proofs.Safe.{view_safe}
use Rattle.pybuf_verbs_views.proofs.laws.view_is_safe.Goals as goal

pub returns : goal.returns
returns c = view_safe c.new_views_keep.ensures c.whole_layouts_are_sound.ensures c.whole_layouts_lie_apart.ensures c.live_layouts_are_sound.ensures c.live_layouts_lie_apart.ensures
