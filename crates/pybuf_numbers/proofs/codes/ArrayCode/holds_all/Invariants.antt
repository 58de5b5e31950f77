use Rattle.std.proofs.Common.{◌≡◌, ℕ, ◌<◌, get_or, pos, true}
use Rattle.pybuf_numbers.specs.Codes.{holds}
use Rattle.pybuf_numbers.proofs.codes.ArrayCode.holds_all.Given as goal

abbrev pub invariant-loop-number : goal.invariant-loop-number
invariant-loop-number l = (k : ℕ) → k < l.number-index → holds l.self (get_or l.numbers k (pos 0)) ≡ true
