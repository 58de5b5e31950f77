use Rattle.std.proofs.Common.{to_z, of_z, ◌≡◌, ℕ, ◌<◌, pos, length, ap, sym, ◌∙◌, subst}
use Rattle.std.specs.Prelude.{ℤ, ◌+ℤ◌, ◌≤ℤ◌, ◌<ℤ◌, ◌^◌, nat_abs}
use Rattle.std.specs.Int.{w64}
use Rattle.std.proofs.lemmas.Int.{to_z-of_z}
use Rattle.example_picture.specs.Parts.{Part, place}
use Rattle.example_picture.specs.Pictures.{HasLevel}
use Rattle.example_picture.proofs.PictureLemmas.{IsFound, found}
use Rattle.example_picture.proofs.canvas.Picture.place_in.Goals as goal

at : (c : goal.After-fast_position) → IsFound c.described-start.result.0.now c.described-start.result.1 (length c.args.self.now.levels) c.args.row c.args.column c.args.channel c.fast_position.result
at c =
    let d = c.described-start in
    found c.placed_descriptors_stand.ensures c.positions_are_places.ensures c.valid_where_items_lie_inside.ensures d.result.0.now d.result.1 (length c.args.self.now.levels) c.args.row c.args.column c.args.channel c.fast_position.result
    d.ensures.placed d.ensures.valid d.ensures.frame (subst (λ (p : Part). HasLevel p c.args.row c.args.column c.args.channel) (sym d.ensures.part) c.requires.level) c.fast_position.ensures.sum

same : (c : goal.After-fast_position) → to_z w64 (of_z w64 c.fast_position.result) ≡ c.fast_position.result
same c = to_z-of_z w64 c.fast_position.result (record { sfits = c.fast_position.type_inv })

pub place_after-requires-clause-place_fits : goal.place_after-requires-clause-place_fits
place_after-requires-clause-place_fits c = (at c).start_fits

pub place_after-requires-clause-low : goal.place_after-requires-clause-low
place_after-requires-clause-low c = subst (λ (z : ℤ). pos 0 ≤ℤ (pos c.described-start.result.1 +ℤ z)) (sym (same c)) (at c).low

pub place_after-requires-clause-high : goal.place_after-requires-clause-high
place_after-requires-clause-high c = subst (λ (z : ℤ). (pos c.described-start.result.1 +ℤ z) <ℤ pos (2 ^ 63)) (sym (same c)) (at c).high

pub returns-clause-place : goal.returns-clause-place
returns-clause-place c =
    c.place_after.ensures
    ∙ ap (λ (z : ℤ). nat_abs (pos c.described-start.result.1 +ℤ z)) (to_z-of_z w64 c.fast_position.result (record { sfits = c.fast_position.type_inv }))
    ∙ (found c.placed_descriptors_stand.ensures c.positions_are_places.ensures c.valid_where_items_lie_inside.ensures c.described-start.result.0.now c.described-start.result.1 (length c.args.self.now.levels) c.args.row c.args.column c.args.channel c.fast_position.result
    c.described-start.ensures.placed c.described-start.ensures.valid c.described-start.ensures.frame (subst (λ (p : Part). HasLevel p c.args.row c.args.column c.args.channel) (sym c.described-start.ensures.part) c.requires.level) c.fast_position.ensures.sum).place
    ∙ ap (λ (p : Part). place p c.args.row c.args.column c.args.channel) c.described-start.ensures.part

pub returns-clause-inside : goal.returns-clause-inside
returns-clause-inside c =
    subst (λ (n : ℕ). n < length c.args.self.now.levels)
    (sym (c.place_after.ensures ∙ ap (λ (z : ℤ). nat_abs (pos c.described-start.result.1 +ℤ z)) (to_z-of_z w64 c.fast_position.result (record { sfits = c.fast_position.type_inv }))))
    (found c.placed_descriptors_stand.ensures c.positions_are_places.ensures c.valid_where_items_lie_inside.ensures c.described-start.result.0.now c.described-start.result.1 (length c.args.self.now.levels) c.args.row c.args.column c.args.channel c.fast_position.result
    c.described-start.ensures.placed c.described-start.ensures.valid c.described-start.ensures.frame (subst (λ (p : Part). HasLevel p c.args.row c.args.column c.args.channel) (sym c.described-start.ensures.part) c.requires.level) c.fast_position.ensures.sum).inside
