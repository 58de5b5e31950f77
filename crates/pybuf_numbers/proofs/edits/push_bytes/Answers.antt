use Rattle.std.proofs.Common.{◌∙◌, ap}
use Rattle.pybuf_numbers.specs.Numbers.{numbers_of, is_whole}
use Rattle.pybuf_numbers.proofs.CodeLemmas.{append_is, append_whole}
use Rattle.pybuf_numbers.proofs.edits.push_bytes.Goals as goal

pub returns-clause-numbers : goal.returns-clause-numbers
returns-clause-numbers c =
    ap (numbers_of c.args.code) c.in_ok-extend_from_slice.ensures.items
    ∙ append_is c.args.code c.args.bytes.now.items c.args.others.now c.requires.whole c.requires.others

pub returns-clause-whole : goal.returns-clause-whole
returns-clause-whole c =
    ap (is_whole c.args.code) c.in_ok-extend_from_slice.ensures.items
    ∙ append_whole c.args.code c.args.bytes.now.items c.args.others.now c.requires.whole c.requires.others
