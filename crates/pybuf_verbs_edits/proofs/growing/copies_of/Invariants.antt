use Rattle.std.proofs.Common.{◌≡◌}
use Rattle.pybuf_slice.specs.Edits.{repeated_list}
use Rattle.pybuf_verbs_edits.proofs.growing.copies_of.Given as goal

abbrev pub invariant-loop-time : goal.invariant-loop-time
invariant-loop-time l = l.list.items ≡ repeated_list l._time l.bytes
