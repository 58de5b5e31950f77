use Rattle.std.proofs.Common.{take, ◌∙◌, ap}
use Rattle.std.specs.List.{each_same}
use Rattle.std.specs.Int.{w128}
use Rattle.std.proofs.lemmas.Int.{to_z-of_z}
use Rattle.pybuf_numbers.specs.Numbers.{digits_of}
use Rattle.pybuf_numbers.proofs.Inserting.{inserted}
use Rattle.pybuf_numbers.proofs.edits.insert_number.Goals as goal

pub returns-clause-numbers : goal.returns-clause-numbers
returns-clause-numbers c =
    let made = c.in_ok-do_set_range.ensures.ok in
    (inserted c.args.code c.args.bytes.now.items _ _ made.0 c.args.place c.start_of-at.result c.args.number c.requires.there c.requires.whole c.requires.range
    (ap (λ n. take n c.word_of-word.result) c.size-size.ensures ∙ (c.word_of-word.ensures ∙ ap (digits_of c.args.code) (to_z-of_z w128 c.args.number c.ranges.number)))
    c.start_of-at.ensures.start (each_same _ made.0 made.1) made.2).numbers

pub returns-clause-whole : goal.returns-clause-whole
returns-clause-whole c =
    let made = c.in_ok-do_set_range.ensures.ok in
    (inserted c.args.code c.args.bytes.now.items _ _ made.0 c.args.place c.start_of-at.result c.args.number c.requires.there c.requires.whole c.requires.range
    (ap (λ n. take n c.word_of-word.result) c.size-size.ensures ∙ (c.word_of-word.ensures ∙ ap (digits_of c.args.code) (to_z-of_z w128 c.args.number c.ranges.number)))
    c.start_of-at.ensures.start (each_same _ made.0 made.1) made.2).whole
