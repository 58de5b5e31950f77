use Rattle.pybuf_slice.proofs.LengthLemmas.{as_many}
use Rattle.pybuf_slice.proofs.laws.as_many_keep_the_length.Goals as goal

pub returns : goal.returns
returns g c = as_many c.indices_of_a_span.ensures c.slices_have_spans.ensures
