use Rattle.std.proofs.Common.{rules, SFits, w64}
use Rattle.pybuf_nd.proofs.CutBits.{cut_is}
use Rattle.pybuf_nd.proofs.selection.cut_dim.Goals as goal

pub returns-clause-cut : goal.returns-clause-cut
returns-clause-cut c =
    let fr : SFits w64 c.stride_after.result = search rules in
    let fs : SFits w64 c.args.dim.1 = search rules in
    let ft : SFits w64 c.adjust_indices-step.result.1 = search rules in
    let fu : SFits w64 c.args.dim.2 = search rules in
    cut_is c.args.dim c.args.slice.now c.adjust_indices-step.result.2 c.stride_after.result c.adjust_indices-step.result.1 fr fs ft fu c.adjust_indices-step.ensures.step c.adjust_indices-step.ensures.count c.stride_after.ensures
