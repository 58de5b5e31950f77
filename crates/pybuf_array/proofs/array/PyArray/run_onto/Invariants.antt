use Rattle.std.proofs.Common.{take}
use Rattle.pybuf_array.proofs.Runs.{IsRun}
use Rattle.pybuf_array.proofs.array.PyArray.run_onto.Given as goal

abbrev pub invariant-loop-op : goal.invariant-loop-op
invariant-loop-op l = IsRun l.initial.self (take l.op-index l.ops) l.self l.initial.replies.items l.replies.items
