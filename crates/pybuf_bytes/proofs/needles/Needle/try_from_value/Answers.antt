use Rattle.pybuf_bytes.specs.Needles.{needle_in}
use Rattle.pybuf_bytes.proofs.needles.Needle.try_from_value.Goals as goal

pub returns : goal.returns
returns g c = c.tried.ensures (needle_in (g.L.Lender.pairs c.args.lender.now) c.args.value.now) c.needle_in.ensures
