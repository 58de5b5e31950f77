use Rattle.std.proofs.Common.{arith, ◌-◌, length}
use Rattle.pybuf_cli.proofs.Taking.{put_further, within_text}
use Rattle.pybuf_cli.proofs.loops.write_all.Goals as goal

pub writing-preserved : goal.writing-preserved
writing-preserved g c = record {
  held = put_further _ _ _ _ c.writing.at c.in_ok-count.count (length c.args.text.now - c.writing.at) c.in_ok-count.ensures.within
      c.writing.invariant.held c.in_ok-count.ensures.put;
  later = omega (arith, c.put.ensures.counts.later);
  within = within_text _ c.writing.at c.in_ok-count.count _ c.in_ok-count.ensures.within c.writing.invariant.within;
}
