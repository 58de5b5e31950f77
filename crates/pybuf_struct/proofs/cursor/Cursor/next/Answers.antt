use Rattle.std.proofs.Common.{sym, ◌∙◌}
use Rattle.pybuf_struct.proofs.CursorSteps.{first_left}
use Rattle.pybuf_struct.proofs.cursor.Cursor.next.Goals as goal

pub returns-clause-some : goal.returns-clause-some
returns-clause-some c = sym c.loop-here.invariant.fields ∙ first_left c.loop-here.here.order _ _ _ _ c.loop-here.here.codes.now c.loop-here-test.false
