use Rattle.pybuf_scoped.proofs.Ends.{group_ends}
use Rattle.pybuf_scoped.proofs.laws.groups_leave_no_export.Goals as goal

pub returns : goal.returns
returns c = group_ends
