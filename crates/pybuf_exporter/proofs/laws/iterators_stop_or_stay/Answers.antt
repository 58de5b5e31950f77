use Rattle.pybuf_exporter.proofs.Viewing.{released_refuse, others_refuse, past_stops, exhausted_stop}
use Rattle.pybuf_exporter.proofs.laws.iterators_stop_or_stay.Goals as goal

pub returns-clause-released : goal.returns-clause-released
returns-clause-released c = released_refuse

pub returns-clause-shaped : goal.returns-clause-shaped
returns-clause-shaped c = others_refuse

pub returns-clause-past : goal.returns-clause-past
returns-clause-past c = past_stops

pub returns-clause-exhausted : goal.returns-clause-exhausted
returns-clause-exhausted c = exhausted_stop
