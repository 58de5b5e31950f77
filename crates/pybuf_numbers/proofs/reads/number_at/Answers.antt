use Rattle.std.proofs.Common.{arith, ◌∙◌}
use Rattle.std.specs.Int.{w128}
use Rattle.std.proofs.lemmas.Int.{to_z-of_z}
use Rattle.pybuf_numbers.proofs.CodeLemmas.{read_at}
use Rattle.pybuf_numbers.proofs.reads.number_at.Goals as goal

pub returns : goal.returns
returns c =
    read_at c.args.code c.args.bytes.now c.args.place c.start_of-at.result _ _ c.requires c.start_of-at.ensures.start (omega (arith, c.size-size.ensures))
    (to_z-of_z w128 c.number_in.result (record { sfits = c.number_in.type_inv }) ∙ c.number_in.ensures)
