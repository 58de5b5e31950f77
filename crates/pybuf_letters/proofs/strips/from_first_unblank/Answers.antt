use Rattle.pybuf_letters.proofs.Places.{stripped_left-from_none, stripped_left-from_some}
use Rattle.pybuf_letters.proofs.strips.from_first_unblank.Goals as goal

pub returns-in-None : goal.returns-in-None
returns-in-None c = stripped_left-from_none _ _ c.args.bytes.now (record { holds = c.blanks.ensures }) c.in-None.ensures

pub returns-in-Some : goal.returns-in-Some
returns-in-Some c = stripped_left-from_some _ _ c.args.bytes.now c.in-Some.start (record { holds = c.blanks.ensures }) c.in-Some.ensures
