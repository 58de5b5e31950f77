use Rattle.pybuf_equality.proofs.Single.{same_bytes_held}
use Rattle.pybuf_equality.proofs.laws.equal_byte_views_hold_the_same_bytes.Goals as goal

pub returns : goal.returns
returns c = same_bytes_held
