use Rattle.pybuf_shaping.specs.Digits.{bytes_of_hex}
use Rattle.pybuf_shaping.proofs.digit_pairs.bytes_of_hex.Goals as goal

pub returns : goal.returns
returns c = c.tried.ensures (bytes_of_hex c.args.text.now) c.read_pairs.ensures
