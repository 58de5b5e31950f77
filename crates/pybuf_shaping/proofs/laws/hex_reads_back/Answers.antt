use Rattle.pybuf_shaping.proofs.ReadLemmas.{read_back}
use Rattle.pybuf_shaping.proofs.laws.hex_reads_back.Goals as goal

pub returns : goal.returns
returns c = read_back
