use Rattle.pybuf_exporter.proofs.Releasing.{stop_no_edit}
use Rattle.pybuf_exporter.proofs.laws.released_views_stop_no_edit.Goals as goal

pub returns : goal.returns
returns c = stop_no_edit c.resizing_is_refused_while_exported.ensures c.unknown_handles_are_refused.ensures.commands
