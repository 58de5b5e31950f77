use Rattle.std.proofs.Common.{◌≡◌, map, take}
use Rattle.pybuf_verbs_reads.proofs.property.strides_of.Given as goal

abbrev pub invariant-loop-dim : goal.invariant-loop-dim
invariant-loop-dim l = l.strides.items ≡ map (λ dim. dim.1) (take l.dim-index l.dims)
