use Rattle.std.proofs.Common.{length}
use Rattle.pybuf_command.proofs.shown.+write_nested.Given as goal

abbrev pub decreases-write_nested : goal.decreases-write_nested
decreases-write_nested g l = length l.shape.now
