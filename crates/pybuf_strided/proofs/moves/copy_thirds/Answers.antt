use Rattle.std.proofs.Common.{arith}
use Rattle.pybuf_strided.proofs.Copies.{apart_moved}
use Rattle.pybuf_strided.proofs.moves.copy_thirds.Goals as goal

pub returns : goal.returns
returns c =
    apart_moved 3 c.args.bytes.now c.args.source.now c.gather_thirds.new.room c.args.to c.args.from c.args.count (λ one k less. omega (arith, c.requires.source_inside, less)) c.requires.inside c.gather_thirds.ensures
