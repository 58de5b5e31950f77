use Rattle.std.proofs.Common.{◌≡◌, ◌++◌, map, take}
use Rattle.pybuf_line.specs.Spellings.{written_value}
use Rattle.pybuf_histories.specs.Names.{name_of}
use Rattle.pybuf_histories.specs.Words.{after_blanks}
use Rattle.pybuf_histories.proofs.commands.push_values.Given as goal

abbrev pub invariant-loop-value : goal.invariant-loop-value
invariant-loop-value l = l.out.items ≡ l.initial.out.items ++ after_blanks (map (written_value (name_of l.loans)) (take l.value-index l.values))
