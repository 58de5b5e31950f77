use Rattle.std.proofs.Common.{take}
use Rattle.pybuf_world.specs.Tables.{world_of, IsKept}
use Rattle.pybuf_world.proofs.Runs.{IsRun}
use Rattle.pybuf_world.proofs.tables.Tables.run_onto.Given as goal

abbrev pub invariant-loop-command : goal.invariant-loop-command
invariant-loop-command l =
    IsRun (world_of l.initial.self) (take l.command-index l.commands) (world_of l.self) l.initial.replies.items l.replies.items × IsKept l.self
