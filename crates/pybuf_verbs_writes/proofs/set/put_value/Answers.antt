use Rattle.std.proofs.Common.{[], ◌∷◌}
use Rattle.pybuf_verbs_writes.proofs.Numbers.{piece_of_scalar, no_piece_of_scalar}
use Rattle.pybuf_verbs_writes.proofs.set.put_value.Goals as goal

pub returns-clause-written : goal.returns-clause-written
returns-clause-written c = λ did. piece_of_scalar (c.args.letter ∷ []) c.args.value.now c.scalar_of.result.now c.pack_single.new.room c.scalar_of.ensures (c.pack_single.ensures.written did)

pub returns-clause-refused : goal.returns-clause-refused
returns-clause-refused c = λ did. no_piece_of_scalar (c.args.letter ∷ []) c.args.value.now c.scalar_of.result.now c.scalar_of.ensures (c.pack_single.ensures.refused did c.requires.numeric)
