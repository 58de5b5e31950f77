use Rattle.std.proofs.Common.{eqb, ap, ◌∙◌, arith, w8}
use Rattle.std.proofs.lemmas.Simd.{bitmask_splat, ones-mask_l}
use lib.Count.{ones}
use Rattle.pybuf_lanes.proofs.counting.lanes_with.Goals as goal

pub returns : goal.returns
returns c = ap ones (bitmask_splat w8 eqb c.args.lanes 16 c.args.byte c.fits-lanes.0 (omega arith)) ∙ ones-mask_l (λ x. eqb x c.args.byte) c.args.lanes
