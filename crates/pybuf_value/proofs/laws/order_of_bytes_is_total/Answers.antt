use Rattle.pybuf_value.proofs.OrderLemmas.{bytes_ordered}
use Rattle.pybuf_value.proofs.laws.order_of_bytes_is_total.Goals as goal

pub returns : goal.returns
returns c = bytes_ordered
