use Rattle.pybuf_value.proofs.UnquotedLemmas.{read_back}
use Rattle.pybuf_value.proofs.laws.quoted_texts_read_back.Goals as goal

pub returns : goal.returns
returns c = read_back
