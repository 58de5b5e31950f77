use Rattle.std.proofs.Common.{◌<◌, ℕ, ℤ, List, length, true, false, All, sym, subst, ◌∙◌}
use Rattle.pybuf_nd.proofs.Answered.{order_refused, can_order, order_extent, order_valid, order_stands}
use Rattle.pybuf_nd.proofs.Ordering.{axes_below}
use Rattle.pybuf_nd.proofs.axes.permute.Goals as goal

pub returns-then-has_zero_of_several-clause-refused : goal.returns-then-has_zero_of_several-clause-refused
returns-then-has_zero_of_several-clause-refused c = order_refused c.args.desc.now c.dim_desc-dims.result.now true c.dim_desc-dims.ensures (sym c.if-has_zero_of_several.true ∙ c.has_zero_of_several.ensures)

pub dims_in_order-requires : goal.dims_in_order-requires
dims_in_order-requires c =
    subst (λ (ds : List (ℕ × ℤ × ℤ)). All (λ axis. axis < length ds) c.args.axes.now) (sym c.dim_desc-dims.ensures) (axes_below (length c.args.desc.now.dims) c.args.axes.now c.requires.each_once)

pub in_dims-requires : goal.in_dims-requires
in_dims-requires c = order_extent c.args.desc.now c.args.axes.now c.dim_desc-dims.result.now c.in_ok-list.list c.requires.valid c.requires.each_once (can_order c.args.desc.now c.dim_desc-dims.result.now c.has_zero_of_several.result c.dim_desc-dims.ensures c.has_zero_of_several.ensures c.if-has_zero_of_several.false) c.dim_desc-dims.ensures c.in_ok-list.ensures

pub returns-clause-refused : goal.returns-clause-refused
returns-clause-refused c = order_refused c.args.desc.now c.dim_desc-dims.result.now false c.dim_desc-dims.ensures (sym c.if-has_zero_of_several.false ∙ c.has_zero_of_several.ensures)

pub returns-clause-valid : goal.returns-clause-valid
returns-clause-valid c = order_valid c.args.desc.now c.args.axes.now c.dim_desc-dims.result.now c.in_ok-list.list c.in_ok-made.made c.requires.each_once (can_order c.args.desc.now c.dim_desc-dims.result.now c.has_zero_of_several.result c.dim_desc-dims.ensures c.has_zero_of_several.ensures c.if-has_zero_of_several.false) c.dim_desc-dims.ensures c.in_ok-list.ensures c.in_ok-made.ensures

pub returns-clause-stands : goal.returns-clause-stands
returns-clause-stands c = order_stands c.args.desc.now c.args.axes.now c.dim_desc-dims.result.now c.in_ok-list.list c.in_ok-made.made c.requires.each_once (can_order c.args.desc.now c.dim_desc-dims.result.now c.has_zero_of_several.result c.dim_desc-dims.ensures c.has_zero_of_several.ensures c.if-has_zero_of_several.false) c.dim_desc-dims.ensures c.in_ok-list.ensures c.in_ok-made.ensures
