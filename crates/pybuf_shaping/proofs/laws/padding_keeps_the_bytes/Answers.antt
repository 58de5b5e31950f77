use Rattle.pybuf_shaping.proofs.PadLemmas as lemmas
use Rattle.pybuf_shaping.proofs.laws.padding_keeps_the_bytes.Goals as goal

pub returns : goal.returns
returns c = lemmas.padding_keeps_the_bytes
