use Rattle.std.proofs.Common.{true, false, sym, ◌∙◌}
use Rattle.pybuf_nd.proofs.Answered.{order_refused, can_order, transposed_extent, transposed_valid, transposed_stands}
use Rattle.pybuf_nd.proofs.axes.transpose.Goals as goal

pub returns-then-has_zero_of_several-clause-refused : goal.returns-then-has_zero_of_several-clause-refused
returns-then-has_zero_of_several-clause-refused c = order_refused c.args.desc.now c.dim_desc-dims.result.now true c.dim_desc-dims.ensures (sym c.if-has_zero_of_several.true ∙ c.has_zero_of_several.ensures)

pub in_dims-requires : goal.in_dims-requires
in_dims-requires c = transposed_extent c.args.desc.now c.dim_desc-dims.result.now c.in_ok-list.list c.requires (can_order c.args.desc.now c.dim_desc-dims.result.now c.has_zero_of_several.result c.dim_desc-dims.ensures c.has_zero_of_several.ensures c.if-has_zero_of_several.false) c.dim_desc-dims.ensures c.in_ok-list.ensures

pub returns-clause-refused : goal.returns-clause-refused
returns-clause-refused c = order_refused c.args.desc.now c.dim_desc-dims.result.now false c.dim_desc-dims.ensures (sym c.if-has_zero_of_several.false ∙ c.has_zero_of_several.ensures)

pub returns-clause-valid : goal.returns-clause-valid
returns-clause-valid c = transposed_valid c.args.desc.now c.dim_desc-dims.result.now c.in_ok-list.list c.in_ok-made.made (can_order c.args.desc.now c.dim_desc-dims.result.now c.has_zero_of_several.result c.dim_desc-dims.ensures c.has_zero_of_several.ensures c.if-has_zero_of_several.false) c.dim_desc-dims.ensures c.in_ok-list.ensures c.in_ok-made.ensures

pub returns-clause-stands : goal.returns-clause-stands
returns-clause-stands c = transposed_stands c.args.desc.now c.dim_desc-dims.result.now c.in_ok-list.list c.in_ok-made.made (can_order c.args.desc.now c.dim_desc-dims.result.now c.has_zero_of_several.result c.dim_desc-dims.ensures c.has_zero_of_several.ensures c.if-has_zero_of_several.false) c.dim_desc-dims.ensures c.in_ok-list.ensures c.in_ok-made.ensures
