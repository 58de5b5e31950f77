use Rattle.pybuf_nd.proofs.Transposing.{column_content}
use Rattle.pybuf_nd.proofs.laws.transpositions_are_column_order.Goals as goal

pub returns : goal.returns
returns c = column_content
