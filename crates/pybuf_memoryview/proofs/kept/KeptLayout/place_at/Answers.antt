use Rattle.std.proofs.Common.{rules, to_z, of_z, ◌≡◌, pos, ap, sym, ◌∙◌, subst, SFits, w64}
use Rattle.std.specs.Prelude.{ℤ, ◌+ℤ◌, ◌≤ℤ◌, ◌<ℤ◌, ◌^◌, nat_abs, Err}
use Rattle.std.proofs.lemmas.Int.{to_z-of_z}
use Rattle.pybuf_desc.specs.Descriptor.{shape_of}
use Rattle.pybuf_desc.specs.Layouts.{Layout}
use Rattle.pybuf_memoryview.specs.Keys.{item_at_indices}
use Rattle.pybuf_memoryview.specs.KeyPlaces.{IsStartOf}
use Rattle.pybuf_memoryview.proofs.Entries.{IsFound, found_at, none_named, start_at, one_each}
use Rattle.pybuf_memoryview.proofs.kept.KeptLayout.place_at.Goals as goal
use Rattle.pybuf_memoryview.proofs.kept.KeptLayout.place_at.Goals.{In_ok-offset}

found : (c : In_ok-offset) → IsFound c.self.inside.descriptor c.self.inside.start c.args.indices.now c.in_ok-offset.offset
found c =
    found_at c.positions_are_places.ensures c.placed_descriptors_stand.ensures c.self.inside.descriptor c.self.inside.start c.args.indices.now c.in_ok-offset.offset c.self.invariant
    (one_each c.self.inside.descriptor c.self.inside.start c.args.self.now c.args.indices.now c.self.view_is c.requires) (sym c.position.ensures.sum ∙ c.in_ok-offset.was)

same : (c : In_ok-offset) → to_z w64 (of_z w64 c.in_ok-offset.offset) ≡ c.in_ok-offset.offset
same c =
    let f : SFits w64 c.in_ok-offset.offset = search rules in
    to_z-of_z w64 c.in_ok-offset.offset f

pub returns-in_err-offset : goal.returns-in_err-offset
returns-in_err-offset c =
    let none : item_at_indices (shape_of c.self.inside.descriptor.dims) c.args.indices.now ≡ Err c.in_err-offset.field-0.0 =
    none_named c.self.inside.descriptor c.args.indices.now c.in_err-offset.field-0.0
    (one_each c.self.inside.descriptor c.self.inside.start c.args.self.now c.args.indices.now c.self.view_is c.requires) (sym c.position.ensures.sum ∙ c.in_err-offset.was) in
    let refused : item_at_indices c.args.self.now.shape c.args.indices.now ≡ Err c.in_err-offset.field-0.0 =
    ap (λ (v : Layout). item_at_indices v.shape c.args.indices.now) (sym c.self.view_is) ∙ none in
    search (rules, refused)

pub place_after-requires-clause-place_fits : goal.place_after-requires-clause-place_fits
place_after-requires-clause-place_fits c = (found c).position.start_fits

pub place_after-requires-clause-low : goal.place_after-requires-clause-low
place_after-requires-clause-low c = subst (λ (z : ℤ). pos 0 ≤ℤ (pos c.self.inside.start +ℤ z)) (sym (same c)) (found c).position.low

pub place_after-requires-clause-high : goal.place_after-requires-clause-high
place_after-requires-clause-high c = subst (λ (z : ℤ). (pos c.self.inside.start +ℤ z) <ℤ pos (2 ^ 63)) (sym (same c)) (found c).position.high

pub returns : goal.returns
returns c =
    let at =
    found_at c.positions_are_places.ensures c.placed_descriptors_stand.ensures c.self.inside.descriptor c.self.inside.start c.args.indices.now c.in_ok-offset.offset c.self.invariant
    (one_each c.self.inside.descriptor c.self.inside.start c.args.self.now c.args.indices.now c.self.view_is c.requires) (sym c.position.ensures.sum ∙ c.in_ok-offset.was) in
    let f : SFits w64 c.in_ok-offset.offset = search rules in
    let there = to_z-of_z w64 c.in_ok-offset.offset f in
    subst (λ (v : Layout). IsStartOf v (item_at_indices v.shape c.args.indices.now) c.place_after.result) c.self.view_is
    (start_at c.self.inside.descriptor c.self.inside.start c.args.indices.now c.in_ok-offset.offset c.place_after.result at
    (c.place_after.ensures ∙ ap (λ (z : ℤ). nat_abs (pos c.self.inside.start +ℤ z)) there))
