use Rattle.pybuf_shaping.proofs.StopLemmas as lemmas
use Rattle.pybuf_shaping.proofs.laws.tabs_lead_to_stops.Goals as goal

pub returns : goal.returns
returns c = lemmas.tabs_lead_to_stops
