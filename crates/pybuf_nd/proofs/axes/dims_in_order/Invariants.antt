use Rattle.std.proofs.Common.{◌≡◌, take}
use Rattle.pybuf_nd.specs.Dims.{dims_in_order}
use Rattle.pybuf_nd.proofs.axes.dims_in_order.Given as goal

abbrev pub invariant-loop-axis : goal.invariant-loop-axis
invariant-loop-axis l = l.list ≡ dims_in_order l.dims (take l.axis-index l.axes)
