use Rattle.std.proofs.Common.{◌≡◌, ◌+◌, ◌-◌, take, ap, arith}
use Rattle.std.specs.List.{suffix_len}
use Rattle.pybuf_lanes.specs.Blanks.{is_blank}
use Rattle.pybuf_lanes.proofs.Runs.{begins_in_chunk, begins_before_chunk}
use Rattle.pybuf_lanes.proofs.blanks.trailing_blanks.Goals as goal

pub returns-then-blanks-lt16-clause-value : goal.returns-then-blanks-lt16-clause-value
returns-then-blanks-lt16-clause-value c =
    let end : c.loop-end.end - 16 + 16 ≡ c.loop-end.end = omega arith in
    let run = begins_in_chunk is_blank c.args.bytes.now (c.loop-end.end - 16) 16 c.trailing_lanes-blanks.result (omega arith) c.trailing_lanes-blanks.ensures (omega arith) in
    omega (arith, ap (λ n. suffix_len is_blank (take n c.args.bytes.now)) end, run)

pub loop-end-preserved : goal.loop-end-preserved
loop-end-preserved c =
    let end : c.loop-end.end - 16 + 16 ≡ c.loop-end.end = omega arith in
    let run = begins_before_chunk is_blank c.args.bytes.now (c.loop-end.end - 16) 16 c.trailing_lanes-blanks.result (omega arith) c.trailing_lanes-blanks.ensures (omega arith) in
    record {
      inside = omega arith;
      passed = omega (arith, ap (λ n. suffix_len is_blank (take n c.args.bytes.now)) end, run);
    }
