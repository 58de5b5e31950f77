use Rattle.std.proofs.Common.{sym, ◌∙◌}
use Rattle.bench_kernels.proofs.Placing.{last_first}
use Rattle.bench_kernels.proofs.axes.permuted.Goals as goal

pub permute-requires-clause-each_once : goal.permute-requires-clause-each_once
permute-requires-clause-each_once c = last_first _ (sym c.ndim.ensures ∙ c.if-ndim-ne3.false)
