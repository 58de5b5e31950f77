use Rattle.std.proofs.Common.{◌∙◌, length, arith}
use Rattle.std.proofs.lemmas.List.{take_rest, drop_all}
use Rattle.pybuf_sessions.proofs.Blanks.{front_there, front_alone}
use Rattle.pybuf_sessions.proofs.asks.front.Goals as goal

pub returns-in-Some : goal.returns-in-Some
returns-in-Some c = front_there c.in-Some.at c.args.text.now _ (take_rest c.args.text.now c.in-Some.at) c.in-Some.ensures

pub returns-in-None : goal.returns-in-None
returns-in-None c =
    front_alone c.args.text.now _ (take_rest c.args.text.now (length c.args.text.now) ∙ drop_all (length c.args.text.now) c.args.text.now (omega arith)) c.in-None.ensures
