use Rattle.std.proofs.Common.{refl, ◌∙◌}
use Rattle.pybuf_lanes.specs.Pairs.{value_or_16}
use Rattle.pybuf_lanes.proofs.Maps.{one_value, by_choice, at_each_byte}
use Rattle.pybuf_lanes.proofs.pairs.value_lanes.Goals as goal

pub returns : goal.returns
returns c =
    let v = c.args.text in
    let sixteen = one_value v 16 16 c.fits-text.0 in
    let decimal = c.decimal_lanes.ensures in
    let letter = c.letter_lanes.ensures in
    let less = by_choice _ _ _ _ _ v decimal letter decimal letter in
    by_choice _ _ _ _ _ v less sixteen less sixteen ∙ at_each_byte _ value_or_16 refl v c.fits-text.1
