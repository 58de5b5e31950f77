use Rattle.pybuf_verbs_views.proofs.Safe.{column_casts_hold}
use Rattle.pybuf_verbs_views.proofs.laws.column_casts_hold_the_bytes.Goals as goal

pub returns : goal.returns
returns c =
    column_casts_hold (record {
      live = c.live_layouts_are_sound.ensures;
      contiguous = c.column_casts_are_f_contiguous.ensures;
      bytes = c.column_casts_give_the_bytes_back.ensures;
      sizes = c.native_codes_have_their_size.ensures;
    })
