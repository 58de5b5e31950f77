use Rattle.std.proofs.Common.{sym}
use Rattle.pybuf_letters.proofs.Places.{prefix_len-from_none, prefix_len-from_some, inside}
use Rattle.pybuf_letters.proofs.blanks.run_end.Goals as goal

pub returns-in-None-clause-value : goal.returns-in-None-clause-value
returns-in-None-clause-value c = sym (prefix_len-from_none _ _ c.args.bytes.now (inside (record { holds = c.blanks.ensures })) c.in-None.ensures)

pub returns-in-Some-clause-value : goal.returns-in-Some-clause-value
returns-in-Some-clause-value c = sym (prefix_len-from_some _ _ c.args.bytes.now c.in-Some.end (inside (record { holds = c.blanks.ensures })) c.in-Some.ensures)
