use Rattle.std.proofs.Common.{◌≡◌, arith}
use Rattle.pybuf_byte_slices.proofs.CloseLemmas.{empty_closed}
use Rattle.pybuf_byte_slices.proofs.close.close_runs.Goals as goal

pub returns-in-0 : goal.returns-in-0
returns-in-0 c = empty_closed c.args.bytes.now c.args.low c.args.size c.args.count (let none : c.args.size ≡ 0 = omega (arith, c.in-0.is) in none)
