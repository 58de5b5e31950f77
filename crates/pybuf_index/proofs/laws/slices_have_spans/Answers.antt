use Rattle.pybuf_index.proofs.LawLemmas.{has_span}
use Rattle.pybuf_index.proofs.laws.slices_have_spans.Goals as goal

pub returns : goal.returns
returns c = has_span
