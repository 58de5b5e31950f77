use Rattle.pybuf_table.proofs.Orders.{orders_decided}
use Rattle.pybuf_table.proofs.laws.codes_decide_orders.Goals as goal

pub returns : goal.returns
returns c = orders_decided
