use Rattle.std.proofs.Common.{rules}
use Rattle.pybuf_value.specs.Halting.{Gives}
use Rattle.pybuf_table.specs.Offsets.{row_from}
use Rattle.pybuf_table.proofs.records.Records.unpack_from.Goals as goal

pub returns : goal.returns
returns c =
    let given : Gives (row_from c.args.self.now.format c.args.offset c.args.bytes.now) c.row_from.result = search rules in
    c.tried.ensures (row_from c.args.self.now.format c.args.offset c.args.bytes.now) given
