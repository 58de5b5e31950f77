use Rattle.std.specs.Option.{option_copied}
use Rattle.pybuf_bytes.specs.Shaping.{decoded}
use Rattle.pybuf_methods.proofs.Stops.{gives}
use Rattle.pybuf_methods.proofs.shaped.text_of.Goals as goal

pub returns : goal.returns
returns c = gives _ _ (decoded c.args.bytes.now (option_copied c.args.encoding) (option_copied c.args.errors)) c.decode_text.ensures c.done.ensures.ok c.done.ensures.stopped
