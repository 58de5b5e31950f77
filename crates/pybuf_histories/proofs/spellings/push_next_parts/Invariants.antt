use Rattle.std.proofs.Common.{◌≡◌, ◌++◌, take}
use Rattle.pybuf_histories.specs.Names.{name_of}
use Rattle.pybuf_histories.specs.Words.{after_commas}
use Rattle.pybuf_histories.proofs.spellings.push_next_parts.Given as goal

abbrev pub invariant-loop-part : goal.invariant-loop-part
invariant-loop-part g l = l.out.items ≡ l.initial.out.items ++ after_commas (g.T.Part.spelling (name_of l.loans)) (take l.part-index l.parts)
