use Rattle.std.proofs.Common.{length}
use Rattle.pybuf_nd.proofs.LaidItems.{IsLeft}
use Rattle.pybuf_nd.proofs.laying.+lay_dims.Given as goal

abbrev pub decreases-lay_dims : goal.decreases-lay_dims
decreases-lay_dims l = length l.dims.now

abbrev pub decreases-loop-left : goal.decreases-loop-left
decreases-loop-left l = l.left

abbrev pub invariant-loop-left : goal.invariant-loop-left
invariant-loop-left l = IsLeft l.bytes l.fn.bytes l.rest l.place l.stride l.left l.initial.left l.fn.start l.size l.content l.next l.fn.from
