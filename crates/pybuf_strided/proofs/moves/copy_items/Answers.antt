use Rattle.std.proofs.Common.{◌≡◌, arith}
use Rattle.pybuf_strided.specs.Apart.{place_of}
use Rattle.pybuf_strided.proofs.Copies.{none_moved}
use Rattle.pybuf_strided.proofs.moves.copy_items.Goals as goal

pub returns-else-size-gt0 : goal.returns-else-size-gt0
returns-else-size-gt0 c = none_moved c.args.bytes.now (place_of c.args.to.falls c.args.to.start c.args.to.step) c.args.source.now (place_of c.args.from.falls c.args.from.start c.args.from.step) c.args.size c.args.count (let none : c.args.size ≡ 0 = omega (arith, c.if-size-gt0.false) in none)
