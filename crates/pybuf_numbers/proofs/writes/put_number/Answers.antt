use Rattle.std.proofs.Common.{take, arith, ◌∙◌, ap}
use Rattle.std.specs.Int.{w128}
use Rattle.std.proofs.lemmas.Int.{to_z-of_z}
use Rattle.pybuf_numbers.specs.Numbers.{digits_of}
use Rattle.pybuf_numbers.proofs.CodeLemmas.{put_is}
use Rattle.pybuf_numbers.proofs.writes.put_number.Goals as goal

pub returns-clause-numbers : goal.returns-clause-numbers
returns-clause-numbers c =
    put_is c.args.code c.args.bytes.now _ c.args.place _ _ c.args.number c.requires.there c.requires.whole c.requires.range
    (c.copy_from_slice.ensures.after ∙ (ap (λ n. take n c.word_of-word.result) c.size-size.ensures ∙ (c.word_of-word.ensures ∙ ap (digits_of c.args.code) (to_z-of_z w128 c.args.number c.ranges.number)))) c.start_of-at.ensures.start (omega (arith, c.size-size.ensures))
