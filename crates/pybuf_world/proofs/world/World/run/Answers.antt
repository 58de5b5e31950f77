use Rattle.std.proofs.Common.{subst}
use Rattle.pybuf_world.specs.Sound.{IsSoundWorld}
use Rattle.pybuf_world.proofs.Sound.{stays_sound}
use Rattle.pybuf_world.proofs.world.World.run.Goals as goal

pub returns-clause-sound : goal.returns-clause-sound
returns-clause-sound c =
    stays_sound c.exporter_laws.ensures _ c.args.commands.now (subst IsSoundWorld c.self.view_is c.self.invariant.sound)
