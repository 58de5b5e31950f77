use Rattle.std.proofs.Common.{bit_and, cond, ltb, refl, ◌∙◌}
use Rattle.pybuf_lanes.specs.Pairs.{as_letter}
use Rattle.pybuf_lanes.proofs.Maps.{each_lane, one_value, by_one, by_two, by_choice, at_each_byte}
use Rattle.pybuf_lanes.proofs.pairs.letter_lanes.Goals as goal

pub returns : goal.returns
returns c =
    let v = c.args.text in
    let long = c.fits-text.0 in
    let ten = one_value v 16 10 long in
    let moved = by_two _ _ _ v (by_two bit_and _ _ v (each_lane v) (one_value v 16 223 long)) (one_value v 16 65 long) in
    let room = by_one _ _ v moved in
    by_two _ _ _ v moved (by_choice (λ a b. cond (ltb a b) 255 0) _ _ _ _ v ten room ten room)
    ∙ at_each_byte _ as_letter refl v c.fits-text.1
