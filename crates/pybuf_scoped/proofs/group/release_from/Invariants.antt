use Rattle.std.proofs.Common.{◌≡◌}
use Rattle.pybuf_scoped.specs.Views.{released_run}
use Rattle.pybuf_scoped.proofs.group.release_from.Given as goal

abbrev pub invariant-loop-k : goal.invariant-loop-k
invariant-loop-k l = l.state.exporter ≡ released_run l.fn.state.exporter l.first l.k
