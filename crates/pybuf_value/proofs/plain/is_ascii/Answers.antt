use Rattle.pybuf_value.proofs.Ascii.{decided}
use Rattle.pybuf_value.proofs.plain.is_ascii.Goals as goal

pub returns : goal.returns
returns c = decided c.is_ascii.result c.args.bytes.now c.is_ascii.ensures.cases
