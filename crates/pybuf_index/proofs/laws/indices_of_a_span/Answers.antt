use Rattle.pybuf_index.proofs.LawLemmas.{span_picks_are}
use Rattle.pybuf_index.proofs.laws.indices_of_a_span.Goals as goal

pub returns : goal.returns
returns c = span_picks_are
