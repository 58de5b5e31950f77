use Rattle.std.proofs.Common.{◌<◌, length, arith}
use Rattle.pybuf_letters.proofs.Places.{suffix_len-from_none, suffix_len-from_some, inside}
use Rattle.pybuf_letters.proofs.blanks.run_start.Goals as goal

pub returns-in-None-clause-value : goal.returns-in-None-clause-value
returns-in-None-clause-value c = omega (arith, suffix_len-from_none _ _ c.args.bytes.now (inside (record { holds = c.blanks.ensures })) c.in-None.ensures)

pub returns-in-Some-clause-value : goal.returns-in-Some-clause-value
returns-in-Some-clause-value c =
    let high : c.in-Some.blank < length c.args.bytes.now = c.in-Some.ensures.0.high in
    omega (arith, suffix_len-from_some _ _ c.args.bytes.now c.in-Some.blank (inside (record { holds = c.blanks.ensures })) c.in-Some.ensures)
