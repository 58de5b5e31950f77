use Rattle.std.proofs.Common.{◌≡◌, map, drop}
use Rattle.pybuf_line.specs.Scalars.{handle_in}
use Rattle.pybuf_line.specs.Spellings.{value_in}
use Rattle.pybuf_line.specs.Commands.{values_in}
use Rattle.pybuf_line.proofs.Spelled.{onto, each_of}
use Rattle.pybuf_line.proofs.verbs.values_of.Given as goal

abbrev pub invariant-loop-word : goal.invariant-loop-word
invariant-loop-word l =
    values_in handle_in (map (λ word. word.now) l.words) ≡ onto l.values.items (each_of (value_in handle_in) (drop l.word-index l.words))
