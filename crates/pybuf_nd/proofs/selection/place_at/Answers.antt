use Rattle.std.proofs.Common.{rules, ◌^◌, ℤ, pos, ◌+ℤ◌, ◌≤ℤ◌, ◌<ℤ◌, SFits, w64, subst, sym, ◌∙◌}
use Rattle.std.proofs.lemmas.Int.{to_z-of_z}
use Rattle.pybuf_desc.specs.Positions.{offset_of}
use Rattle.pybuf_nd.proofs.Answered.{next_is, position_of_indices}
use Rattle.pybuf_nd.proofs.CutBits.{bits}
use Rattle.pybuf_nd.proofs.selection.place_at.Goals as goal

pub fast_position-requires-clause-valid : goal.fast_position-requires-clause-valid
fast_position-requires-clause-valid c = record { start = c.args.start; placed = c.requires.placed }

pub place_after-requires-clause-place_fits : goal.place_after-requires-clause-place_fits
place_after-requires-clause-place_fits c =
    (position_of_indices c.positions_are_places.ensures c.placed_descriptors_stand.ensures c.args.desc.now c.args.start c.args.indices.now c.requires.placed c.requires.in_range).start_fits

pub place_after-requires-clause-low : goal.place_after-requires-clause-low
place_after-requires-clause-low c =
    let f : SFits w64 c.fast_position.result = search rules in
    subst (λ (z : ℤ). pos 0 ≤ℤ (pos c.args.start +ℤ z)) (sym (to_z-of_z w64 c.fast_position.result f ∙ c.fast_position.ensures.sum))
    (position_of_indices c.positions_are_places.ensures c.placed_descriptors_stand.ensures c.args.desc.now c.args.start c.args.indices.now c.requires.placed c.requires.in_range).low

pub place_after-requires-clause-high : goal.place_after-requires-clause-high
place_after-requires-clause-high c =
    let f : SFits w64 c.fast_position.result = search rules in
    subst (λ (z : ℤ). (pos c.args.start +ℤ z) <ℤ pos (2 ^ 63)) (sym (to_z-of_z w64 c.fast_position.result f ∙ c.fast_position.ensures.sum))
    (position_of_indices c.positions_are_places.ensures c.placed_descriptors_stand.ensures c.args.desc.now c.args.start c.args.indices.now c.requires.placed c.requires.in_range).high

pub returns : goal.returns
returns c =
    let f : SFits w64 c.fast_position.result = search rules in
    next_is c.place_after.result c.args.start (bits c.fast_position.result) (offset_of c.args.indices.now c.args.desc.now.dims) c.place_after.ensures (to_z-of_z w64 c.fast_position.result f ∙ c.fast_position.ensures.sum)
    (position_of_indices c.positions_are_places.ensures c.placed_descriptors_stand.ensures c.args.desc.now c.args.start c.args.indices.now c.requires.placed c.requires.in_range).low
