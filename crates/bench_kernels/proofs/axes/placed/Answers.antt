use Rattle.std.proofs.Common.{rules}
use Rattle.pybuf_desc.specs.Valid.{IsValid, IsPlaced}
use Rattle.bench_kernels.proofs.Placing.{lies_inside}
use Rattle.bench_kernels.proofs.axes.placed.Goals as goal

pub returns : goal.returns
returns c =
    let valid : IsValid c.args.desc c.args.start c.args.room = search rules in
    let placed : IsPlaced c.args.desc c.args.start = search rules in
    lies_inside c.placed_descriptors_stand.ensures c.valid_where_items_lie_inside.ensures c.args.desc c.args.start c.args.room c.of_descriptor.result c.of_descriptor.ensures placed valid
