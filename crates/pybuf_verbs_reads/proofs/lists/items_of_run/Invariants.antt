use Rattle.std.proofs.Common.{◌≡◌, ◌≤◌, ◌*◌, ◌++◌, length}
use Rattle.pybuf_verbs_reads.specs.ItemRuns as runs
use Rattle.pybuf_verbs_reads.proofs.lists.items_of_run.Given as goal

abbrev pub invariant-loop-left : goal.invariant-loop-left
invariant-loop-left l =
    (l.items.items ++ runs.items_in l.reader l.size l.rest l.left ≡ runs.items_of_run l.reader l.size l.run)
    × (l.left * l.size ≤ length l.rest)

abbrev pub decreases-loop-left : goal.decreases-loop-left
decreases-loop-left l = l.left
