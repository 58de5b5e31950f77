use Rattle.std.proofs.Common.{◌∷◌, ◌+◌, ◌∙◌, ap, sym, take}
use Rattle.std.proofs.lemmas.List.{take_rest}
use Rattle.pybuf_line.specs.Lines.{lines}
use Rattle.pybuf_line.proofs.FirstLine.{first_line, last_line}
use Rattle.pybuf_line.proofs.splitting.next_line.Goals as goal

pub returns-in-Some : goal.returns-in-Some
returns-in-Some c =
    first_line c.in-Some.at c.args.rest.now c.in-Some.ensures
    ∙ ap (λ rest. take c.in-Some.at c.args.rest.now ∷ lines rest) (sym (take_rest c.args.rest.now (c.in-Some.at + 1)))

pub returns-in-None : goal.returns-in-None
returns-in-None c = last_line c.args.rest.now (sym c.is_empty.ensures ∙ c.if-is_empty.false) c.in-None.ensures
