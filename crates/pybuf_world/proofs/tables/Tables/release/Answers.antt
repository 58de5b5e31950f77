use Rattle.std.proofs.Common.{subst, sym}
use Rattle.pybuf_world.specs.Sound.{IsSoundWorld}
use Rattle.pybuf_world.proofs.Sound.{released_by_sound, released_by_owned, same_owned}
use Rattle.pybuf_world.proofs.tables.Tables.release.Goals as goal

pub returns-in-Ok-clause-kept : goal.returns-in-Ok-clause-kept
returns-in-Ok-clause-kept c = record {
  sound = released_by_sound c.release_is_safe.ensures _ _ c.args.handle c.requires.sound c.in-Ok.ensures.exact;
  owned = released_by_owned _ _ c.args.handle _ _ c.requires.owned c.in-Ok.ensures.owners c.in-Ok.ensures.exact;
}

pub returns-in-Err-clause-kept : goal.returns-in-Err-clause-kept
returns-in-Err-clause-kept c = record {
  sound = subst IsSoundWorld (sym c.in-Err.ensures.err) c.requires.sound;
  owned = same_owned _ _ _ _ c.requires.owned c.in-Err.ensures.err c.in-Err.ensures.owners;
}
