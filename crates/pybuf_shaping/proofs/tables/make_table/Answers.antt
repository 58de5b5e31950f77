use Rattle.pybuf_shaping.specs.Tables.{table_of}
use Rattle.pybuf_shaping.proofs.tables.make_table.Goals as goal

pub returns : goal.returns
returns c = c.tried.ensures (table_of c.args.from.now c.args.to.now) c.table_of.ensures
