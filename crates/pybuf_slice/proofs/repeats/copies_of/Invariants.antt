use Rattle.std.proofs.Common.{◌*◌, ◌≤◌, length, vec_capacity}
use Rattle.std.specs.List.{AllZip}
use Rattle.pybuf_slice.specs.Edits.{repeated_list}
use Rattle.pybuf_slice.proofs.repeats.copies_of.Given as goal

abbrev pub invariant-loop-time : goal.invariant-loop-time
invariant-loop-time g l =
    AllZip g.T.Twin.same (repeated_list l._time l.items) l.list.items
    × (length l.items * l.times ≤ vec_capacity l.list)
