use Rattle.pybuf_verbs_views.proofs.Safe.{released_is_sound}
use Rattle.pybuf_verbs_views.proofs.release.release.Goals as goal

pub returns-in-Ok-clause-whole : goal.returns-in-Ok-clause-whole
returns-in-Ok-clause-whole c = record {
  counted = c.release_view.ensures.counted;
  sound = released_is_sound c.releasing_keeps.ensures _ _ _ c.requires.sound c.in-Ok.ensures.exact;
}
