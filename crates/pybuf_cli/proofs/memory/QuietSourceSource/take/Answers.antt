use Rattle.pybuf_cli.proofs.Taking.{took_front}
use Rattle.pybuf_cli.proofs.memory.QuietSourceSource.take.Goals as goal

pub returns-clause-took : goal.returns-clause-took
returns-clause-took c = took_front _ _ _ c.move_next.result c.move_next.ensures.moved c.move_next.ensures.left
