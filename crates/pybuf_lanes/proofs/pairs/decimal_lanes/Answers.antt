use Rattle.std.proofs.Common.{refl, ◌∙◌}
use Rattle.pybuf_lanes.specs.Pairs.{as_decimal}
use Rattle.pybuf_lanes.proofs.Maps.{each_lane, one_value, by_two, by_choice, at_each_byte}
use Rattle.pybuf_lanes.proofs.pairs.decimal_lanes.Goals as goal

pub returns : goal.returns
returns c =
    let v = c.args.text in
    let long = c.fits-text.0 in
    let six = one_value v 16 6 long in
    let moved = by_two _ _ _ v (each_lane v) (one_value v 16 198 long) in
    by_two _ _ _ v (by_two _ _ _ v (by_choice _ _ _ _ _ v moved six six moved) six) (one_value v 16 240 long)
    ∙ at_each_byte _ as_decimal refl v c.fits-text.1
