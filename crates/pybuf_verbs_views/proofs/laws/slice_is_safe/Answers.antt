use Rattle.pybuf_verbs_views.proofs.Safe.{slice_safe}
use Rattle.pybuf_verbs_views.proofs.laws.slice_is_safe.Goals as goal

pub returns : goal.returns
returns c =
    slice_safe (record {
      adding = c.new_views_keep.ensures;
      live = c.live_layouts_are_sound.ensures;
      inside = c.slices_stay_inside.ensures;
      shapes = c.slices_have_their_shape.ensures;
      live_apart = c.live_layouts_lie_apart.ensures;
      apart = c.slices_lie_apart.ensures;
    })
