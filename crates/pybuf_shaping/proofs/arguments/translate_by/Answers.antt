use Rattle.std.specs.Option.{option_copied}
use Rattle.pybuf_shaping.specs.Arguments.{translation}
use Rattle.pybuf_shaping.proofs.arguments.translate_by.Goals as goal

pub returns : goal.returns
returns g c =
    c.tried.ensures (translation (g.L.Lender.pairs c.args.lender.now) (option_copied c.args.table) (option_copied c.args.delete) c.args.bytes.now) c.translation.ensures
