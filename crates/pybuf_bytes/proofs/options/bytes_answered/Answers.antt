use Rattle.pybuf_bytes.specs.Options.{bytes_of_options}
use Rattle.pybuf_bytes.proofs.options.bytes_answered.Goals as goal

pub returns : goal.returns
returns g c =
    c.tried.ensures (bytes_of_options (g.L.Lender.pairs c.args.lender.now) c.args.options.now.source c.args.options.now.encoding c.args.options.now.errors) c.bytes_of_options.ensures
