use Rattle.std.specs.Option.{option_copied}
use Rattle.pybuf_bytes.specs.Shaping.{decoded}
use Rattle.pybuf_bytes.proofs.decoding.decode_text.Goals as goal

pub returns : goal.returns
returns c = c.tried.ensures (decoded c.args.bytes.now (option_copied c.args.encoding) (option_copied c.args.errors)) c.decoded.ensures
