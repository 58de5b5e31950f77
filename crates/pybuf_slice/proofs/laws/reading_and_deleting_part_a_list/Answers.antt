use Rattle.pybuf_slice.proofs.PartedLemmas.{parted}
use Rattle.pybuf_slice.proofs.laws.reading_and_deleting_part_a_list.Goals as goal

pub returns : goal.returns
returns g c = parted c.indices_of_a_span.ensures c.slices_have_spans.ensures
