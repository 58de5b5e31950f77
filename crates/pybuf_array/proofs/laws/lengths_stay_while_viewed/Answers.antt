use Rattle.pybuf_array.proofs.Lengths.{lengths_stay}
use Rattle.pybuf_array.proofs.laws.lengths_stay_while_viewed.Goals as goal

pub returns : goal.returns
returns c = λ a ops. lengths_stay a ops
