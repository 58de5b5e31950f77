use Rattle.pybuf_memoryview.proofs.Runs.{one_run}
use Rattle.pybuf_memoryview.proofs.laws.contiguous_items_are_one_run.Goals as goal

pub returns : goal.returns
returns c = one_run
