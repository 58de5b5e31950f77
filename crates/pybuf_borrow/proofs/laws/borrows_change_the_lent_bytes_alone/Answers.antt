use Rattle.pybuf_borrow.proofs.Written.{written}
use Rattle.pybuf_borrow.proofs.laws.borrows_change_the_lent_bytes_alone.Goals as goal

pub returns : goal.returns
returns c = written c.casts_share_their_bytes.ensures c.contents_are_whole.ensures c.live_layouts_are_sound.ensures
