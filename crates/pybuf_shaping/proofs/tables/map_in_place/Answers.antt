use Rattle.std.proofs.Common.{slice_index}
use Rattle.pybuf_shaping.proofs.TableLemmas.{one_mapped}
use Rattle.pybuf_shaping.proofs.tables.map_in_place.Goals as goal

pub loop-byte-preserved : goal.loop-byte-preserved
loop-byte-preserved c = one_mapped (slice_index c.args.table.now) c.args.bytes.now c.loop-byte.bytes c.loop-byte.byte-index c.loop-byte-test.true c.loop-byte.invariant
