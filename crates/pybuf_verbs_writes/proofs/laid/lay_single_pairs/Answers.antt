use Rattle.pybuf_verbs_writes.proofs.Pairs.{pair_step, pair_copies}
use Rattle.pybuf_verbs_writes.proofs.laid.lay_single_pairs.Goals as goal

pub copy_range-next-requires : goal.copy_range-next-requires
copy_range-next-requires c =
    let copy = pair_copies c.loop-range.bytes c.args.source.now c.loop-range.pairs c.next.new.self c.in-Some.range c.in-Some.lender c.in-Some.ensures.steps c.loop-range.invariant.inside c.loop-range.invariant.source_inside c.loop-range.invariant.alike in
    record { inside = copy.inside; enough = copy.enough }

pub loop-range-preserved : goal.loop-range-preserved
loop-range-preserved c =
    let next = pair_step c.loop-range.bytes c.copy_range-next.new.bytes c.args.source.now _ c.loop-range.pairs c.next.new.self c.in-Some.range c.in-Some.lender c.in-Some.ensures.steps c.copy_range-next.ensures.copied c.loop-range.invariant.inside c.loop-range.invariant.source_inside c.loop-range.invariant.alike c.loop-range.invariant.laid in
    record { laid = next.laid; inside = next.inside; source_inside = next.source_inside; alike = next.alike }
