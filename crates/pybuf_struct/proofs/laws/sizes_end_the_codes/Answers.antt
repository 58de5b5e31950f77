use Rattle.pybuf_struct.proofs.Spelled.{end_with_codes}
use Rattle.pybuf_struct.proofs.laws.sizes_end_the_codes.Goals as goal

pub returns : goal.returns
returns c = end_with_codes
