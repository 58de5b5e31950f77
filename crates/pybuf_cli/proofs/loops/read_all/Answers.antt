use Rattle.std.proofs.Common.{ℕ, ◌≤◌, [], subst, arith}
use Rattle.pybuf_cli.proofs.Outcomes.{if_err}
use Rattle.pybuf_cli.proofs.Taking.{took_nothing, took_still}
use Rattle.pybuf_cli.proofs.loops.read_all.Goals as goal

pub returns-in_err-reserve_exact-clause-stopped : goal.returns-in_err-reserve_exact-clause-stopped
returns-in_err-reserve_exact-clause-stopped g c = if_err c.from_residual.result _ (λ stop other. ([], omega arith, took_nothing _))

pub returns-in_err-count-clause-stopped : goal.returns-in_err-count-clause-stopped
returns-in_err-count-clause-stopped g c =
    if_err c.from_residual-in_err-count.result _
    (λ stop other. (
      c.reading.input.items,
      subst (λ (n : ℕ). n ≤ 1048576) c.reading.input.ok.0 c.reading.invariant.limit,
      took_still _ _ _ c.reading.input.items c.in_err-count.ensures.failed c.reading.invariant.bytes,
    ))
