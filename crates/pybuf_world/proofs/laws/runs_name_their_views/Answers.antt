use Rattle.pybuf_world.proofs.Naming.{handles_in_runs, named_after_runs}
use Rattle.pybuf_world.proofs.laws.runs_name_their_views.Goals as goal

pub returns-clause-handles : goal.returns-clause-handles
returns-clause-handles c = handles_in_runs c.handles_stay.ensures

pub returns-clause-views : goal.returns-clause-views
returns-clause-views c = named_after_runs c.handles_stay.ensures c.world_lengths_stay.ensures c.exporter_laws.ensures
