use Rattle.std.proofs.Common.{◌∷◌, ◌+◌, ◌∙◌, ap, sym, take}
use Rattle.std.proofs.lemmas.List.{take_rest}
use Rattle.pybuf_line.specs.Words.{words}
use Rattle.pybuf_sessions.proofs.Blanks.{cut_there, nowhere}
use Rattle.pybuf_sessions.proofs.asks.around_blank.Goals as goal

pub returns-in-Some : goal.returns-in-Some
returns-in-Some c =
    cut_there c.in-Some.at c.args.text.now c.in-Some.ensures
    ∙ ap (λ rest. take c.in-Some.at c.args.text.now ∷ words rest) (sym (take_rest c.args.text.now (c.in-Some.at + 1)))

pub returns-in-None : goal.returns-in-None
returns-in-None c = nowhere c.args.text.now c.in-None.ensures
