use Rattle.std.proofs.Common.{◌≡◌, ◌-◌, ◌++◌, map, reverse}
use Rattle.pybuf_letters.specs.Blanks.{runs_up_to}
use Rattle.pybuf_letters.proofs.Runs.{AtRun}
use Rattle.pybuf_letters.proofs.blanks.cut_from_right.Given as goal

abbrev pub invariant-loop : goal.invariant-loop
invariant-loop l =
    (l.parts.items ++ map reverse (runs_up_to (l.cuts - l.counter) (reverse l.rest)) ≡ map reverse (runs_up_to l.cuts (reverse l.bytes)))
    × AtRun (reverse l.rest)
