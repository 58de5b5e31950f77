use Rattle.pybuf_verbs_views.proofs.Safe.{toreadonly_safe}
use Rattle.pybuf_verbs_views.proofs.laws.toreadonly_is_safe.Goals as goal

pub returns : goal.returns
returns c = toreadonly_safe c.new_views_keep.ensures c.live_layouts_are_sound.ensures c.live_layouts_lie_apart.ensures
