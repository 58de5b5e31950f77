use Rattle.pybuf_shaping.proofs.laws.replacing_by_the_same.Goals as goal

pub returns : goal.returns
returns c = λ most old bytes. c.split_joins_back.ensures most old bytes
