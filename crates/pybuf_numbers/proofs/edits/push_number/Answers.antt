use Rattle.std.proofs.Common.{take, ◌∙◌, ap}
use Rattle.std.specs.Int.{w128}
use Rattle.std.proofs.lemmas.Int.{to_z-of_z}
use Rattle.pybuf_numbers.specs.Numbers.{numbers_of, is_whole, digits_of}
use Rattle.pybuf_numbers.proofs.CodeLemmas.{push_is, push_whole}
use Rattle.pybuf_numbers.proofs.edits.push_number.Goals as goal

pub returns-clause-numbers : goal.returns-clause-numbers
returns-clause-numbers c =
    ap (numbers_of c.args.code) c.in_ok-extend_from_slice.ensures.items
    ∙ push_is c.args.code c.args.bytes.now.items _ c.args.number c.requires.whole c.requires.range
    (ap (λ n. take n c.word_of-word.result) c.size.ensures ∙ (c.word_of-word.ensures ∙ ap (digits_of c.args.code) (to_z-of_z w128 c.args.number c.ranges.number)))

pub returns-clause-whole : goal.returns-clause-whole
returns-clause-whole c =
    ap (is_whole c.args.code) c.in_ok-extend_from_slice.ensures.items
    ∙ push_whole c.args.code c.args.bytes.now.items _ c.args.number c.requires.whole
    (ap (λ n. take n c.word_of-word.result) c.size.ensures ∙ (c.word_of-word.ensures ∙ ap (digits_of c.args.code) (to_z-of_z w128 c.args.number c.ranges.number)))
