use Rattle.pybuf_scoped.proofs.Ends.{ends}
use Rattle.pybuf_scoped.proofs.laws.scopes_leave_no_export.Goals as goal

pub returns : goal.returns
returns c = ends
