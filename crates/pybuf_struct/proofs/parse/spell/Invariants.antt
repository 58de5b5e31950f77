use Rattle.pybuf_struct.proofs.Spelling.{Spells}
use Rattle.pybuf_struct.proofs.parse.spell.Given as goal

abbrev pub invariant-loop-b : goal.invariant-loop-b
invariant-loop-b l = Spells l.order l.text l.codes.items l.offset l.arg_count l.count l.b-index
