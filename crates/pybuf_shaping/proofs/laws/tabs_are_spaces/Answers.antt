use Rattle.pybuf_shaping.proofs.TabLemmas as lemmas
use Rattle.pybuf_shaping.proofs.laws.tabs_are_spaces.Goals as goal

pub returns : goal.returns
returns c = lemmas.tabs_are_spaces
