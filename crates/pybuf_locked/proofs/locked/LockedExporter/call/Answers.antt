use Rattle.pybuf_locked.proofs.Replying.{replied_by}
use Rattle.pybuf_locked.proofs.locked.LockedExporter.call.Goals as goal

pub returns : goal.returns
returns g c = replied_by g.I.Invariant.holds c.args.command.now _ _ _ c.step.result c.step.ensures.was_sound c.step.ensures.was_held c.step.ensures.ok
