use Rattle.pybuf_exporter.proofs.Counting.{queues_move_few}
use Rattle.pybuf_exporter.proofs.laws.queues_move_few_bytes.Goals as goal

pub returns : goal.returns
returns c = queues_move_few
