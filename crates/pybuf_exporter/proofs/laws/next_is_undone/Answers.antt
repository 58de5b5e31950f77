use Rattle.pybuf_exporter.proofs.Owning.{next_is_undone, no_iterator_no_next}
use Rattle.pybuf_exporter.proofs.laws.next_is_undone.Goals as goal

pub returns-clause-undone : goal.returns-clause-undone
returns-clause-undone c = next_is_undone

pub returns-clause-none : goal.returns-clause-none
returns-clause-none c = no_iterator_no_next
