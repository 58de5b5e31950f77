use Rattle.std.proofs.Common.{◌≡◌, ◌+◌, ◌≤◌, drop}
use Rattle.pybuf_desc.proofs.Inside.{back_reach, forth_reach}
use Rattle.pybuf_desc.proofs.checks.are_inside.Given as goal

abbrev pub invariant-loop-dim : goal.invariant-loop-dim
invariant-loop-dim l =
    (l.before + back_reach l.dims ≡ l.start + back_reach (drop l.dim-index l.dims))
    × (l.after + forth_reach l.dims + l.itemsize + l.start ≡ l.room + forth_reach (drop l.dim-index l.dims))
    × (l.before ≤ l.start) × (l.after + l.itemsize + l.start ≤ l.room)
