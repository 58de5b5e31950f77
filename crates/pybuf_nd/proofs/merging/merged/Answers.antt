use Rattle.pybuf_nd.proofs.Joining.{entries_fit, merged_extent, merged_fewest, merged_valid, merged_stands}
use Rattle.pybuf_nd.proofs.merging.merged.Goals as goal

pub merged_dims-requires : goal.merged_dims-requires
merged_dims-requires c = entries_fit c.args.desc.now c.dim_desc.result.now c.requires c.dim_desc.ensures

pub in_dims-requires : goal.in_dims-requires
in_dims-requires c = merged_extent c.args.desc.now c.dim_desc.result.now c.in_ok-list.list c.requires c.dim_desc.ensures c.in_ok-list.ensures

pub returns-clause-fewest : goal.returns-clause-fewest
returns-clause-fewest c = merged_fewest c.args.desc.now c.in_ok-made.made c.dim_desc.result.now c.in_ok-list.list c.dim_desc.ensures c.in_ok-list.ensures c.in_ok-made.ensures

pub returns-clause-valid : goal.returns-clause-valid
returns-clause-valid c = merged_valid c.args.desc.now c.in_ok-made.made c.dim_desc.result.now c.in_ok-list.list c.dim_desc.ensures c.in_ok-list.ensures c.in_ok-made.ensures

pub returns-clause-stands : goal.returns-clause-stands
returns-clause-stands c = merged_stands c.args.desc.now c.in_ok-made.made c.dim_desc.result.now c.in_ok-list.list c.dim_desc.ensures c.in_ok-list.ensures c.in_ok-made.ensures
