use Rattle.std.proofs.Common.{◌≡◌, take, true}
use Rattle.pybuf_state.specs.Fits.{all_fit}
use Rattle.pybuf_state.proofs.loans.all_fit.Given as goal

abbrev pub invariant-loop-pair : goal.invariant-loop-pair
invariant-loop-pair l = all_fit (take l.pair-index l.loans) ≡ true
