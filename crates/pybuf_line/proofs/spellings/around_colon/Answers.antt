use Rattle.std.proofs.Common.{◌∷◌, ◌+◌, ◌∙◌, ap, sym, take}
use Rattle.std.proofs.lemmas.List.{take_rest}
use Rattle.pybuf_line.specs.Parts.{parts_at}
use Rattle.pybuf_line.proofs.FirstLine.{cut_there, nowhere}
use Rattle.pybuf_line.proofs.spellings.around_colon.Goals as goal

pub returns-in-Some : goal.returns-in-Some
returns-in-Some c =
    cut_there 58 c.in-Some.at c.args.text.now c.in-Some.ensures
    ∙ ap (λ rest. take c.in-Some.at c.args.text.now ∷ parts_at 58 rest) (sym (take_rest c.args.text.now (c.in-Some.at + 1)))

pub returns-in-None : goal.returns-in-None
returns-in-None c = nowhere 58 c.args.text.now c.in-None.ensures
