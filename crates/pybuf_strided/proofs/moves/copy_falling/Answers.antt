use Rattle.std.proofs.Common.{arith}
use Rattle.pybuf_strided.proofs.Copies.{ones_inside, turned_enough, turned_inside}
use Rattle.pybuf_strided.proofs.moves.copy_falling.Goals as goal

pub copy_turned-requires-clause-inside : goal.copy_turned-requires-clause-inside
copy_turned-requires-clause-inside c = ones_inside c.args.to.start c.args.to.step c.args.count c.args.size _ c.requires.inside (omega arith) (omega arith) (omega arith)

pub copy_turned-requires-clause-enough : goal.copy_turned-requires-clause-enough
copy_turned-requires-clause-enough c = turned_enough c.args.from.start c.args.from.step c.args.count c.args.size _ c.requires.source_inside (omega arith) (omega arith)

pub copy_turned-requires-clause-source_inside : goal.copy_turned-requires-clause-source_inside
copy_turned-requires-clause-source_inside c = turned_inside c.args.from.start c.args.from.step c.args.count c.args.size _ c.requires.source_inside (omega arith) (omega arith)
