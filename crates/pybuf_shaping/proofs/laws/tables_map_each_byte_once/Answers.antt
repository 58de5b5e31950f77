use Rattle.pybuf_shaping.proofs.TableLemmas.{each_once}
use Rattle.pybuf_shaping.proofs.laws.tables_map_each_byte_once.Goals as goal

pub returns : goal.returns
returns c = each_once
