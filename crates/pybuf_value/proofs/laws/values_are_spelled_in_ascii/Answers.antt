use Rattle.pybuf_value.proofs.AsciiLemmas.{scalar_ascii}
use Rattle.pybuf_value.proofs.laws.values_are_spelled_in_ascii.Goals as goal

pub returns : goal.returns
returns c = scalar_ascii
