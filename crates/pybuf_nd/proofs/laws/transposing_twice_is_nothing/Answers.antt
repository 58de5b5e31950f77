use Rattle.pybuf_nd.proofs.Transposing.{transposed_twice}
use Rattle.pybuf_nd.proofs.laws.transposing_twice_is_nothing.Goals as goal

pub returns : goal.returns
returns c = transposed_twice
