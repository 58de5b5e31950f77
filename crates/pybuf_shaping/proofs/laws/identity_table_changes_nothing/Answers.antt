use Rattle.pybuf_shaping.proofs.TableLemmas.{by_identity}
use Rattle.pybuf_shaping.proofs.laws.identity_table_changes_nothing.Goals as goal

pub returns : goal.returns
returns c = by_identity
