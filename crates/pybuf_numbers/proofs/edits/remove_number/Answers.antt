use Rattle.std.proofs.Common.{◌∙◌, ap, ◌+◌}
use Rattle.pybuf_numbers.proofs.CodeLemmas.{remove_is, remove_whole}
use Rattle.pybuf_numbers.specs.Numbers.{numbers_of, is_whole}
use Rattle.pybuf_numbers.proofs.edits.remove_number.Goals as goal

pub returns-clause-numbers : goal.returns-clause-numbers
returns-clause-numbers c =
    ap (numbers_of c.args.code) c.do_delete_range.ensures
    ∙ remove_is c.args.code c.args.bytes.now.items c.args.place _ _ c.requires.there c.requires.whole c.start_of-at.ensures.start (ap (λ s. c.start_of-at.result + s) c.size-size.ensures)

pub returns-clause-whole : goal.returns-clause-whole
returns-clause-whole c =
    ap (is_whole c.args.code) c.do_delete_range.ensures
    ∙ remove_whole c.args.code c.args.bytes.now.items c.args.place _ _ c.requires.there c.requires.whole c.start_of-at.ensures.start (ap (λ s. c.start_of-at.result + s) c.size-size.ensures)
