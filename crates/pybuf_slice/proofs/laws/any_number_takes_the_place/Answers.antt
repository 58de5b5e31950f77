use Rattle.pybuf_slice.proofs.SetLemmas.{stand_between}
use Rattle.pybuf_slice.proofs.laws.any_number_takes_the_place.Goals as goal

pub returns : goal.returns
returns g c = stand_between c.indices_of_a_span.ensures c.slices_have_spans.ensures
