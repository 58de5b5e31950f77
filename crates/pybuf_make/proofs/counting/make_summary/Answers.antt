use Rattle.std.proofs.Common.{◌≡◌, List, ℕ, IfOk, refl, subst}
use Rattle.pybuf_make.proofs.Runs.{whole_run}
use Rattle.pybuf_make.proofs.counting.make_summary.Goals as goal

pub returns : goal.returns
returns c =
    subst (λ (text : List ℕ). IfOk c.told.result (λ written. written.items ≡ text))
    (whole_run c.args.n _ _ _ _ c.new_bytearray.result c.ask.result c.new_bytearray.ensures c.ask.ensures c.in_ok-carry_out.ensures.ran
    c.in_ok-rounds.ensures.ran c.in_ok-carry_out-2.ensures.ran c.new.ensures refl refl)
    c.told.ensures
