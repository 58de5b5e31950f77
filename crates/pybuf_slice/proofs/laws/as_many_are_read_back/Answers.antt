use Rattle.pybuf_slice.proofs.SetLemmas.{read_back}
use Rattle.pybuf_slice.proofs.laws.as_many_are_read_back.Goals as goal

pub returns : goal.returns
returns g c = read_back c.indices_of_a_slice.ensures c.indices_of_a_span.ensures c.slices_have_spans.ensures
