use Rattle.pybuf_letters.proofs.StripLaws.{loses_front, loses_back, loses_ends}
use Rattle.pybuf_letters.proofs.laws.strips_take_the_ends_alone.Goals as goal

pub returns : goal.returns
returns c = record { left = loses_front; right = loses_back; both = loses_ends }
