use Rattle.std.proofs.Common.{refl, ap, ◌∙◌}
use Rattle.pybuf_lanes.specs.Pairs.{bytes_of_pairs, value_or_16}
use Rattle.pybuf_lanes.proofs.Blocks.{values_of_block, digits_of_block}
use Rattle.pybuf_lanes.proofs.pairs.block_at.Goals as goal

pub returns-clause-bytes : goal.returns-clause-bytes
returns-clause-bytes c =
    c.byte_lanes-block.ensures ∙ ap bytes_of_pairs (values_of_block value_or_16 c.args.text.now _ _ c.args.at c.value_lanes-front.ensures c.value_lanes-back.ensures)

pub returns-clause-digits : goal.returns-clause-digits
returns-clause-digits c =
    digits_of_block c.args.text.now _ _ c.args.at c.value_lanes-front.ensures c.value_lanes-back.ensures
    (c.if-not-are_values.ensures refl) (c.if-not-are_values-2.ensures refl)
