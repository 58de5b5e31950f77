use Rattle.pybuf_verbs_views.proofs.Safe.{cast_safe}
use Rattle.pybuf_verbs_views.proofs.laws.cast_is_safe.Goals as goal

pub returns : goal.returns
returns c =
    cast_safe (record {
      adding = c.new_views_keep.ensures;
      live = c.live_layouts_are_sound.ensures;
      inside = c.casts_stay_inside.ensures;
      shapes = c.casts_have_their_shape.ensures;
      shaped_inside = c.shaped_casts_stay_inside.ensures;
      shaped_shapes = c.shaped_casts_have_their_shape.ensures;
      apart = c.casts_lie_apart.ensures;
      column_inside = c.column_casts_stay_inside.ensures;
      column_shapes = c.column_casts_have_their_shape.ensures;
      column_apart = c.column_casts_lie_apart.ensures;
      sizes = c.native_codes_have_their_size.ensures;
    })
