use Rattle.pybuf_letters.proofs.LineEnds.{line-from_none, line-from_some}
use Rattle.pybuf_letters.proofs.lines.first_line.Goals as goal

pub returns-in-None-clause-line : goal.returns-in-None-clause-line
returns-in-None-clause-line c = (line-from_none c.args.bytes.now c.requires c.in-None.ensures).0.line

pub returns-in-None-clause-bare : goal.returns-in-None-clause-bare
returns-in-None-clause-bare c = (line-from_none c.args.bytes.now c.requires c.in-None.ensures).1

pub returns-in-Some-clause-line : goal.returns-in-Some-clause-line
returns-in-Some-clause-line c = (line-from_some c.args.bytes.now c.in-Some.end _ c.in-Some.ensures c.end_length.ensures.value).0.line

pub returns-in-Some-clause-bare : goal.returns-in-Some-clause-bare
returns-in-Some-clause-bare c = (line-from_some c.args.bytes.now c.in-Some.end _ c.in-Some.ensures c.end_length.ensures.value).1
