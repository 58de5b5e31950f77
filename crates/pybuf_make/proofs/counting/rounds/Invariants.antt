use Rattle.std.proofs.Common.{◌≤◌, ◌+◌, ◌*◌}
use Rattle.std.specs.List.{flat_map, range_with_len}
use Rattle.pybuf_make.specs.Script as spec
use Rattle.pybuf_make.specs.Counting.{HasRun}
use Rattle.pybuf_make.proofs.counting.rounds.Given as goal

-- The rounds so far were run, and each has at most eight commands.
pub record Rounds (Ran Room Within : Type 0) : Type 0 where
  pub ran : Ran
  pub room : Room
  pub within : Within

abbrev pub invariant-running : goal.invariant-running
invariant-running l =
    Rounds
    (HasRun l.fn.run (flat_map spec.round (range_with_len 0 l.k)) l.run)
    (l.run.lines ≤ 1 + 8 * l.k)
    (l.run.refused ≤ l.run.lines)
