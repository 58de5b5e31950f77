use Rattle.std.proofs.Common.{to_z, of_z, ◌≡◌, ℕ, ◌<◌, pos, [], ◌∷◌, length, ap, sym, ◌∙◌, subst}
use Rattle.std.specs.Prelude.{ℤ, ◌+ℤ◌, ◌≤ℤ◌, ◌<ℤ◌, ◌^◌, nat_abs, slice_index}
use Rattle.std.specs.Int.{w64}
use Rattle.std.proofs.lemmas.Int.{to_z-of_z}
use Rattle.std.proofs.lemmas.Option.{get_or_from_slice_get}
use Rattle.pybuf_desc.specs.Layouts.{Layout}
use Rattle.pybuf_desc.specs.Places.{layout_at}
use Rattle.pybuf_desc.specs.Laws.{IsPosition}
use Rattle.pybuf_memoryview.proofs.Dimensions.{in_range, position_of_item}
use Rattle.pybuf_memoryview.proofs.kept.KeptLayout.place.Goals as goal

one : (shown now : Layout) → shown ≡ now → length now.shape ≡ 1 → length shown.shape ≡ 1
one shown now is holds = subst (λ (v : Layout). length v.shape ≡ 1) (sym is) holds

below : (shown now : Layout) (item : ℕ) → shown ≡ now → item < slice_index now.shape 0 → item < slice_index shown.shape 0
below shown now item is holds = subst (λ (v : Layout). item < slice_index v.shape 0) (sym is) holds

pub fast_position-requires-clause-in_range : goal.fast_position-requires-clause-in_range
fast_position-requires-clause-in_range c =
    in_range c.self.inside.descriptor.dims c.args.item (one _ _ c.self.view_is c.requires.one_dimension) (below _ _ c.args.item c.self.view_is c.requires.inside)

found : (c : goal.After-fast_position) → IsPosition (layout_at c.self.inside.descriptor c.self.inside.start) c.self.inside.start c.args.item c.fast_position.result
found c =
    let d = c.self.inside.descriptor in
    let start = c.self.inside.start in
    let view = layout_at d start in
    let has_one = one view c.args.self.now c.self.view_is c.requires.one_dimension in
    position_of_item d view start c.args.item c.fast_position.result has_one c.fast_position.ensures.sum
    (c.positions_are_places.ensures d start view (c.args.item ∷ []) c.self.invariant (c.placed_descriptors_stand.ensures d start c.self.invariant)
    (in_range d.dims c.args.item has_one (below view c.args.self.now c.args.item c.self.view_is c.requires.inside)))

same : (c : goal.After-fast_position) → to_z w64 (of_z w64 c.fast_position.result) ≡ c.fast_position.result
same c = to_z-of_z w64 c.fast_position.result (record { sfits = c.fast_position.type_inv })

pub place_after-requires-clause-place_fits : goal.place_after-requires-clause-place_fits
place_after-requires-clause-place_fits c = (found c).start_fits

pub place_after-requires-clause-low : goal.place_after-requires-clause-low
place_after-requires-clause-low c = subst (λ (z : ℤ). pos 0 ≤ℤ (pos c.self.inside.start +ℤ z)) (sym (same c)) (found c).low

pub place_after-requires-clause-high : goal.place_after-requires-clause-high
place_after-requires-clause-high c = subst (λ (z : ℤ). (pos c.self.inside.start +ℤ z) <ℤ pos (2 ^ 63)) (sym (same c)) (found c).high

pub returns-clause-value : goal.returns-clause-value
returns-clause-value c =
    let d = c.self.inside.descriptor in
    let start = c.self.inside.start in
    let view = layout_at d start in
    let has_one = one view c.args.self.now c.self.view_is c.requires.one_dimension in
    let at =
    position_of_item d view start c.args.item c.fast_position.result has_one c.fast_position.ensures.sum
    (c.positions_are_places.ensures d start view (c.args.item ∷ []) c.self.invariant (c.placed_descriptors_stand.ensures d start c.self.invariant)
    (in_range d.dims c.args.item has_one (below view c.args.self.now c.args.item c.self.view_is c.requires.inside))) in
    rw (sym c.self.view_is) (c.place_after.ensures
    ∙ ap (λ (z : ℤ). nat_abs (pos start +ℤ z)) (to_z-of_z w64 c.fast_position.result (record { sfits = c.fast_position.type_inv }))
    ∙ sym (get_or_from_slice_get view.starts c.args.item (nat_abs (pos start +ℤ c.fast_position.result)) 0 at.place))

pub returns-clause-item : goal.returns-clause-item
returns-clause-item c =
    let d = c.self.inside.descriptor in
    let start = c.self.inside.start in
    let view = layout_at d start in
    let has_one = one view c.args.self.now c.self.view_is c.requires.one_dimension in
    let at =
    position_of_item d view start c.args.item c.fast_position.result has_one c.fast_position.ensures.sum
    (c.positions_are_places.ensures d start view (c.args.item ∷ []) c.self.invariant (c.placed_descriptors_stand.ensures d start c.self.invariant)
    (in_range d.dims c.args.item has_one (below view c.args.self.now c.args.item c.self.view_is c.requires.inside))) in
    subst (λ (v : Layout). c.args.item < length v.starts) c.self.view_is at.item_exists
