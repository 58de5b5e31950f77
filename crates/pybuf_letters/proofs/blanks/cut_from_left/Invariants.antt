use Rattle.std.proofs.Common.{◌≡◌, ◌-◌, ◌++◌}
use Rattle.pybuf_letters.specs.Blanks.{runs_up_to}
use Rattle.pybuf_letters.proofs.Runs.{AtRun}
use Rattle.pybuf_letters.proofs.blanks.cut_from_left.Given as goal

abbrev pub invariant-loop : goal.invariant-loop
invariant-loop l = (l.parts.items ++ runs_up_to (l.cuts - l.counter) l.rest ≡ runs_up_to l.cuts l.bytes) × AtRun l.rest
