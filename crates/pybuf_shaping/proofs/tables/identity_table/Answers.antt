use Rattle.std.proofs.Common.{arith}
use Rattle.std.proofs.lemmas.Grind.{common_steps}
use Rattle.std.proofs.lemmas.List.FromFn.{length-range_with_len}
use Rattle.pybuf_shaping.proofs.TableLemmas.{range_more, all_bytes-is}
use Rattle.pybuf_shaping.proofs.tables.identity_table.Goals as goal

pub loop-byte-preserved : goal.loop-byte-preserved
loop-byte-preserved c = grind (arith, common_steps, range_more c.loop-byte.byte)

pub returns-clause-value : goal.returns-clause-value
returns-clause-value c = grind (arith, common_steps, all_bytes-is)

pub returns-clause-full : goal.returns-clause-full
returns-clause-full c = grind (arith, common_steps, length-range_with_len)
