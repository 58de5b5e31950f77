use Rattle.std.proofs.Common.{arith, to_z-of_z}
use Rattle.std.proofs.lemmas.Grind.{common_steps}
use Rattle.pybuf_desc.proofs.Inside.{outside_of_reach, outside_at, inside_in_reach, too_far}
use Rattle.pybuf_desc.proofs.checks.are_inside.Goals as goal

pub returns-then-start-room : goal.returns-then-start-room
returns-then-start-room c =
    outside_of_reach c.args.itemsize c.args.room c.args.start c.args.dims.now c.requires (λ low high. omega (arith, low, high))

pub returns-then-itemsize-room : goal.returns-then-itemsize-room
returns-then-itemsize-room c =
    outside_of_reach c.args.itemsize c.args.room c.args.start c.args.dims.now c.requires (λ low high. omega (arith, low, high))

pub returns-in-None : goal.returns-in-None
returns-in-None c =
    outside_at c.args.itemsize c.args.room c.args.start c.loop-dim.before c.loop-dim.after c.loop-dim.dim-index c.args.dims.now c.requires (omega arith) c.loop-dim.invariant.0 c.loop-dim.invariant.1
    (λ low high. grind (arith, to_z-of_z, too_far, low, high))

pub returns-then-reach-before : goal.returns-then-reach-before
returns-then-reach-before c =
    outside_at c.args.itemsize c.args.room c.args.start c.loop-dim.before c.loop-dim.after c.loop-dim.dim-index c.args.dims.now c.requires (omega arith) c.loop-dim.invariant.0 c.loop-dim.invariant.1
    (λ low high. grind (arith, to_z-of_z, too_far, low, high))

pub returns-then-reach-after : goal.returns-then-reach-after
returns-then-reach-after c =
    outside_at c.args.itemsize c.args.room c.args.start c.loop-dim.before c.loop-dim.after c.loop-dim.dim-index c.args.dims.now c.requires (omega arith) c.loop-dim.invariant.0 c.loop-dim.invariant.1
    (λ low high. grind (arith, to_z-of_z, too_far, low, high))

pub returns : goal.returns
returns c = inside_in_reach c.args.itemsize c.args.room c.args.start c.args.dims.now (grind (arith, common_steps)) (grind (arith, common_steps))
