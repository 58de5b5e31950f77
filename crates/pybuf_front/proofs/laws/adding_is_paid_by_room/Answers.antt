use Rattle.pybuf_front.proofs.RoomLemmas.{adding_is_paid}
use Rattle.pybuf_front.proofs.laws.adding_is_paid_by_room.Goals as goal

pub returns : goal.returns
returns c = adding_is_paid
