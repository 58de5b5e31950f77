use Rattle.std.proofs.Common.{arith}
use Rattle.pybuf_lanes.specs.Blanks.{is_blank}
use Rattle.pybuf_lanes.proofs.Runs.{ends_in_chunk, goes_past_chunk}
use Rattle.pybuf_lanes.proofs.blanks.leading_blanks.Goals as goal

pub returns-then-blanks-lt16-clause-value : goal.returns-then-blanks-lt16-clause-value
returns-then-blanks-lt16-clause-value c =
    omega (arith, ends_in_chunk is_blank c.args.bytes.now c.loop-at.at 16 c.leading_lanes-blanks.result (omega arith) c.leading_lanes-blanks.ensures (omega arith))

pub loop-at-preserved : goal.loop-at-preserved
loop-at-preserved c = record {
  inside = omega arith;
  passed = omega (arith, goes_past_chunk is_blank c.args.bytes.now c.loop-at.at 16 c.leading_lanes-blanks.result (omega arith) c.leading_lanes-blanks.ensures (omega arith));
}
