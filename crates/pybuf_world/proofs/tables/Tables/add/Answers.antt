use Rattle.pybuf_world.proofs.Sound.{owned_after_new, same_owned}
use Rattle.pybuf_world.proofs.tables.Tables.add.Goals as goal

pub returns-in-Ok-clause-owned : goal.returns-in-Ok-clause-owned
returns-in-Ok-clause-owned c = owned_after_new _ _ c.args.exporter.exporter _ _ _ c.in-Ok.ensures.ok c.in-Ok.ensures.owners c.requires.sound c.requires.owned

pub returns-in-Err-clause-owned : goal.returns-in-Err-clause-owned
returns-in-Err-clause-owned c = same_owned _ _ _ _ c.requires.owned c.in-Err.ensures.err c.in-Err.ensures.owners_kept
