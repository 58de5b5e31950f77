use Rattle.pybuf_value.specs.Snaps.{bytes_in}
use Rattle.pybuf_value.proofs.contents.bytes_from_object.Goals as goal

pub returns : goal.returns
returns g c = c.tried.ensures (bytes_in (g.L.Lender.pairs c.args.lender.now) c.args.value.now) c.bytes_in.ensures
