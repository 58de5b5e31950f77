use Rattle.pybuf_shaping.proofs.PairLemmas.{read_in_pairs}
use Rattle.pybuf_shaping.proofs.laws.hex_is_read_in_pairs.Goals as goal

pub returns : goal.returns
returns c = read_in_pairs c.strips_take_named_bytes.ensures.blanks
