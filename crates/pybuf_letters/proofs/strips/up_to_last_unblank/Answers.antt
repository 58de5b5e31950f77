use Rattle.pybuf_letters.proofs.Places.{stripped_right-from_none, stripped_right-from_some}
use Rattle.pybuf_letters.proofs.strips.up_to_last_unblank.Goals as goal

pub returns-in-None : goal.returns-in-None
returns-in-None c = stripped_right-from_none _ _ c.args.bytes.now (record { holds = c.blanks.ensures }) c.in-None.ensures

pub returns-in-Some : goal.returns-in-Some
returns-in-Some c = stripped_right-from_some _ _ c.args.bytes.now c.in-Some.last (record { holds = c.blanks.ensures }) c.in-Some.ensures
