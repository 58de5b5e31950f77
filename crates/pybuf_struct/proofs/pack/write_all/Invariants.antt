use Rattle.std.proofs.Common.{◌<◌, ◌^◌}
use Rattle.pybuf_struct.specs.Formats.{extent, fields_from}
use Rattle.pybuf_struct.specs.Cursor.{remaining, end}
use Rattle.pybuf_struct.proofs.Packs.{Writes}
use Rattle.pybuf_struct.proofs.pack.write_all.Given as goal

abbrev pub invariant-loop-value : goal.invariant-loop-value
invariant-loop-value g l = record {
  writes : Writes l.order (g.L.Lender.pairs l.lender) (extent l.order l.codes) (fields_from l.order 0 l.codes) l.values l.initial.room l.room (remaining l.cursor) l.value-index;
  bound : end l.cursor < 2 ^ 63;
}
