use Rattle.std.proofs.Common.{not, refl, arith}
use Rattle.pybuf_lanes.specs.Blanks.{is_blank}
use Rattle.pybuf_lanes.proofs.Maps.{each_lane, one_value, by_one, by_two, mask_of}
use Rattle.pybuf_lanes.proofs.blanks.other_mask.Goals as goal

pub returns : goal.returns
returns c =
    let v = c.args.lanes in
    let long = c.fits-lanes.0 in
    let spaces = by_two _ _ _ v (each_lane v) (one_value v 16 32 long) in
    let from_tab = by_two _ _ _ v (by_two _ _ _ v (each_lane v) (one_value v 16 9 long)) (one_value v 16 5 long) in
    mask_of _ (λ b. not (is_blank b)) refl v c.fits-lanes.1 (omega arith) (by_one _ _ v (by_two _ _ _ v spaces from_tab))
