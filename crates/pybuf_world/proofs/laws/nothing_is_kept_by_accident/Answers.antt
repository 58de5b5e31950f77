use Rattle.pybuf_world.proofs.Freeing.{free_edits, counted_releases, counted_exports}
use Rattle.pybuf_world.proofs.laws.nothing_is_kept_by_accident.Goals as goal

pub returns-clause-edits : goal.returns-clause-edits
returns-clause-edits c = free_edits c.released_views_stop_no_edit.ensures

pub returns-clause-released : goal.returns-clause-released
returns-clause-released c = counted_releases

pub returns-clause-counted : goal.returns-clause-counted
returns-clause-counted c = counted_exports c.released_views_dont_count.ensures
