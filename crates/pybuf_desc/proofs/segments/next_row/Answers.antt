use Rattle.std.proofs.Common.{rules, arith, ◌≡◌, ◌^◌, ◌-◌, pos, ◌+ℤ◌, ◌-ℤ◌, ◌*ℤ◌, ◌≤ℤ◌, ◌<ℤ◌, SFits, w64, to_z, of_z, sym, ap, ◌∙◌, subst, get_or}
use Rattle.std.proofs.lemmas.Int.{ints, to_z-of_z}
use Rattle.pybuf_desc.proofs.Moves.{dim_at}
use Rattle.pybuf_desc.proofs.Rows.{Carried, Digit, carry_none, digit, raised, lowered, carry_on, left_raised, left_none, way_fits}
use Rattle.pybuf_desc.proofs.segments.next_row.Goals as goal

pub bounds-indices-k : goal.bounds-indices-k
bounds-indices-k c =
    let d : Digit c.args.rows.now c.loop-k.indices c.loop-k.place (c.loop-k.k - 1) = digit c.args.rows.now c.args.indices.now c.args.place c.loop-k.indices c.loop-k.place c.loop-k.k c.loop-k-test.true c.loop-k.invariant in
    let h = d.in_indices in search (rules, h)

pub bounds-indices-k-then-index-rows : goal.bounds-indices-k-then-index-rows
bounds-indices-k-then-index-rows c =
    let d : Digit c.args.rows.now c.loop-k.indices c.loop-k.place (c.loop-k.k - 1) = digit c.args.rows.now c.args.indices.now c.args.place c.loop-k.indices c.loop-k.place c.loop-k.k c.loop-k-test.true c.loop-k.invariant in
    let h = d.in_indices in search (rules, h)

pub bounds-indices-k-in-loop-k : goal.bounds-indices-k-in-loop-k
bounds-indices-k-in-loop-k c =
    let d : Digit c.args.rows.now c.loop-k.indices c.loop-k.place (c.loop-k.k - 1) = digit c.args.rows.now c.args.indices.now c.args.place c.loop-k.indices c.loop-k.place c.loop-k.k c.loop-k-test.true c.loop-k.invariant in
    let h = d.in_indices in search (rules, h)

pub loop-k-init : goal.loop-k-init
loop-k-init c =
    carry_none c.args.rows.now c.args.indices.now c.args.place c.requires

pub overflow_add-index : goal.overflow_add-index
overflow_add-index c =
    let d : Digit c.args.rows.now c.loop-k.indices c.loop-k.place (c.loop-k.k - 1) = digit c.args.rows.now c.args.indices.now c.args.place c.loop-k.indices c.loop-k.place c.loop-k.k c.loop-k-test.true c.loop-k.invariant in
    let low = d.below in let high = d.entries_fit in omega (arith, low, high)

pub next_place-requires-clause-place_fits : goal.next_place-requires-clause-place_fits
next_place-requires-clause-place_fits c =
    let d : Digit c.args.rows.now c.loop-k.indices c.loop-k.place (c.loop-k.k - 1) = digit c.args.rows.now c.args.indices.now c.args.place c.loop-k.indices c.loop-k.place c.loop-k.k c.loop-k-test.true c.loop-k.invariant in
    d.place_fits

pub next_place-requires-clause-next_low : goal.next_place-requires-clause-next_low
next_place-requires-clause-next_low c =
    let d : Digit c.args.rows.now c.loop-k.indices c.loop-k.place (c.loop-k.k - 1) = digit c.args.rows.now c.args.indices.now c.args.place c.loop-k.indices c.loop-k.place c.loop-k.k c.loop-k-test.true c.loop-k.invariant in
    let f : SFits w64 (dim_at c.args.rows.now (c.loop-k.k - 1)).1 = search rules in
    let same : to_z w64 (of_z w64 (dim_at c.args.rows.now (c.loop-k.k - 1)).1) ≡ (dim_at c.args.rows.now (c.loop-k.k - 1)).1 = to_z-of_z w64 (dim_at c.args.rows.now (c.loop-k.k - 1)).1 f in
    let r = raised c.args.rows.now c.loop-k.indices c.loop-k.place (c.loop-k.k - 1) d.in_rows c.if-index-rows.true c.loop-k.invariant.row in
    λ _. subst (λ z. pos 0 ≤ℤ (pos c.loop-k.place +ℤ z)) (sym same) r.low

pub next_place-requires-clause-next_high : goal.next_place-requires-clause-next_high
next_place-requires-clause-next_high c =
    let d : Digit c.args.rows.now c.loop-k.indices c.loop-k.place (c.loop-k.k - 1) = digit c.args.rows.now c.args.indices.now c.args.place c.loop-k.indices c.loop-k.place c.loop-k.k c.loop-k-test.true c.loop-k.invariant in
    let f : SFits w64 (dim_at c.args.rows.now (c.loop-k.k - 1)).1 = search rules in
    let same : to_z w64 (of_z w64 (dim_at c.args.rows.now (c.loop-k.k - 1)).1) ≡ (dim_at c.args.rows.now (c.loop-k.k - 1)).1 = to_z-of_z w64 (dim_at c.args.rows.now (c.loop-k.k - 1)).1 f in
    let r = raised c.args.rows.now c.loop-k.indices c.loop-k.place (c.loop-k.k - 1) d.in_rows c.if-index-rows.true c.loop-k.invariant.row in
    λ _. subst (λ z. (pos c.loop-k.place +ℤ z) ≤ℤ pos 9223372036854775807) (sym same) r.high

pub returns-then-index-rows-clause-row : goal.returns-then-index-rows-clause-row
returns-then-index-rows-clause-row c =
    let d : Digit c.args.rows.now c.loop-k.indices c.loop-k.place (c.loop-k.k - 1) = digit c.args.rows.now c.args.indices.now c.args.place c.loop-k.indices c.loop-k.place c.loop-k.k c.loop-k-test.true c.loop-k.invariant in
    let f : SFits w64 (dim_at c.args.rows.now (c.loop-k.k - 1)).1 = search rules in
    let same : to_z w64 (of_z w64 (dim_at c.args.rows.now (c.loop-k.k - 1)).1) ≡ (dim_at c.args.rows.now (c.loop-k.k - 1)).1 = to_z-of_z w64 (dim_at c.args.rows.now (c.loop-k.k - 1)).1 f in
    let r = raised c.args.rows.now c.loop-k.indices c.loop-k.place (c.loop-k.k - 1) d.in_rows c.if-index-rows.true c.loop-k.invariant.row in
    let next : pos c.next_place.result ≡ pos c.loop-k.place +ℤ (dim_at c.args.rows.now (c.loop-k.k - 1)).1 = c.next_place.ensures (omega arith) ∙ ap (λ z. pos c.loop-k.place +ℤ z) same in
    r.row c.next_place.result next

pub returns-then-index-rows-clause-left : goal.returns-then-index-rows-clause-left
returns-then-index-rows-clause-left c =
    let d : Digit c.args.rows.now c.loop-k.indices c.loop-k.place (c.loop-k.k - 1) = digit c.args.rows.now c.args.indices.now c.args.place c.loop-k.indices c.loop-k.place c.loop-k.k c.loop-k-test.true c.loop-k.invariant in
    let f : SFits w64 (dim_at c.args.rows.now (c.loop-k.k - 1)).1 = search rules in
    let same : to_z w64 (of_z w64 (dim_at c.args.rows.now (c.loop-k.k - 1)).1) ≡ (dim_at c.args.rows.now (c.loop-k.k - 1)).1 = to_z-of_z w64 (dim_at c.args.rows.now (c.loop-k.k - 1)).1 f in
    let next : pos c.next_place.result ≡ pos c.loop-k.place +ℤ (dim_at c.args.rows.now (c.loop-k.k - 1)).1 = c.next_place.ensures (omega arith) ∙ ap (λ z. pos c.loop-k.place +ℤ z) same in
    left_raised c.args.rows.now c.args.indices.now c.args.place c.loop-k.indices c.loop-k.place c.loop-k.k c.next_place.result c.loop-k-test.true c.if-index-rows.true next c.requires c.loop-k.invariant

pub place_before-place-requires-clause-place_fits : goal.place_before-place-requires-clause-place_fits
place_before-place-requires-clause-place_fits c =
    let d : Digit c.args.rows.now c.loop-k.indices c.loop-k.place (c.loop-k.k - 1) = digit c.args.rows.now c.args.indices.now c.args.place c.loop-k.indices c.loop-k.place c.loop-k.k c.loop-k-test.true c.loop-k.invariant in
    d.place_fits

pub place_before-place-requires-clause-count_fits : goal.place_before-place-requires-clause-count_fits
place_before-place-requires-clause-count_fits c =
    let d : Digit c.args.rows.now c.loop-k.indices c.loop-k.place (c.loop-k.k - 1) = digit c.args.rows.now c.args.indices.now c.args.place c.loop-k.indices c.loop-k.place c.loop-k.k c.loop-k-test.true c.loop-k.invariant in
    let low = d.below in let high = d.entries_fit in omega (arith, low, high)

pub place_before-place-requires-clause-product_fits : goal.place_before-place-requires-clause-product_fits
place_before-place-requires-clause-product_fits c =
    let d : Digit c.args.rows.now c.loop-k.indices c.loop-k.place (c.loop-k.k - 1) = digit c.args.rows.now c.args.indices.now c.args.place c.loop-k.indices c.loop-k.place c.loop-k.k c.loop-k-test.true c.loop-k.invariant in
    let f : SFits w64 (dim_at c.args.rows.now (c.loop-k.k - 1)).1 = search rules in
    let same : to_z w64 (of_z w64 (dim_at c.args.rows.now (c.loop-k.k - 1)).1) ≡ (dim_at c.args.rows.now (c.loop-k.k - 1)).1 = to_z-of_z w64 (dim_at c.args.rows.now (c.loop-k.k - 1)).1 f in
    let low = d.below in
    let r = lowered c.args.rows.now c.loop-k.indices c.loop-k.place (c.loop-k.k - 1) d.in_rows (omega (arith, low)) c.loop-k.invariant.row in
    subst (λ z. SFits w64 (pos (get_or c.loop-k.indices (c.loop-k.k - 1) 0) *ℤ z)) (sym same)
    (way_fits c.loop-k.place (pos (get_or c.loop-k.indices (c.loop-k.k - 1) 0) *ℤ (dim_at c.args.rows.now (c.loop-k.k - 1)).1) d.place_fits r.low r.high)

pub place_before-place-requires-clause-low : goal.place_before-place-requires-clause-low
place_before-place-requires-clause-low c =
    let d : Digit c.args.rows.now c.loop-k.indices c.loop-k.place (c.loop-k.k - 1) = digit c.args.rows.now c.args.indices.now c.args.place c.loop-k.indices c.loop-k.place c.loop-k.k c.loop-k-test.true c.loop-k.invariant in
    let f : SFits w64 (dim_at c.args.rows.now (c.loop-k.k - 1)).1 = search rules in
    let same : to_z w64 (of_z w64 (dim_at c.args.rows.now (c.loop-k.k - 1)).1) ≡ (dim_at c.args.rows.now (c.loop-k.k - 1)).1 = to_z-of_z w64 (dim_at c.args.rows.now (c.loop-k.k - 1)).1 f in
    let low = d.below in
    let r = lowered c.args.rows.now c.loop-k.indices c.loop-k.place (c.loop-k.k - 1) d.in_rows (omega (arith, low)) c.loop-k.invariant.row in
    subst (λ z. pos 0 ≤ℤ (pos c.loop-k.place -ℤ pos (get_or c.loop-k.indices (c.loop-k.k - 1) 0) *ℤ z)) (sym same) r.low

pub place_before-place-requires-clause-high : goal.place_before-place-requires-clause-high
place_before-place-requires-clause-high c =
    let d : Digit c.args.rows.now c.loop-k.indices c.loop-k.place (c.loop-k.k - 1) = digit c.args.rows.now c.args.indices.now c.args.place c.loop-k.indices c.loop-k.place c.loop-k.k c.loop-k-test.true c.loop-k.invariant in
    let f : SFits w64 (dim_at c.args.rows.now (c.loop-k.k - 1)).1 = search rules in
    let same : to_z w64 (of_z w64 (dim_at c.args.rows.now (c.loop-k.k - 1)).1) ≡ (dim_at c.args.rows.now (c.loop-k.k - 1)).1 = to_z-of_z w64 (dim_at c.args.rows.now (c.loop-k.k - 1)).1 f in
    let low = d.below in
    let r = lowered c.args.rows.now c.loop-k.indices c.loop-k.place (c.loop-k.k - 1) d.in_rows (omega (arith, low)) c.loop-k.invariant.row in
    let high : (pos c.loop-k.place -ℤ pos (get_or c.loop-k.indices (c.loop-k.k - 1) 0) *ℤ (dim_at c.args.rows.now (c.loop-k.k - 1)).1) <ℤ pos (2 ^ 63) = (let h = r.high in omega (arith, ints, h)) in
    subst (λ z. (pos c.loop-k.place -ℤ pos (get_or c.loop-k.indices (c.loop-k.k - 1) 0) *ℤ z) <ℤ pos (2 ^ 63)) (sym same) high

pub loop-k-preserved : goal.loop-k-preserved
loop-k-preserved c =
    let f : SFits w64 (dim_at c.args.rows.now (c.loop-k.k - 1)).1 = search rules in
    let same : to_z w64 (of_z w64 (dim_at c.args.rows.now (c.loop-k.k - 1)).1) ≡ (dim_at c.args.rows.now (c.loop-k.k - 1)).1 = to_z-of_z w64 (dim_at c.args.rows.now (c.loop-k.k - 1)).1 f in
    carry_on c.args.rows.now c.args.indices.now c.args.place c.loop-k.indices c.loop-k.place c.loop-k.k c.place_before-place.result c.loop-k-test.true c.if-index-rows.false
    (c.place_before-place.ensures ∙ ap (λ z. pos c.loop-k.place -ℤ pos (get_or c.loop-k.indices (c.loop-k.k - 1) 0) *ℤ z) same) c.loop-k.invariant

pub returns-clause-row : goal.returns-clause-row
returns-clause-row c =
    c.loop-k.invariant.row

pub returns-clause-left : goal.returns-clause-left
returns-clause-left c =
    left_none c.args.rows.now c.args.indices.now c.args.place c.loop-k.indices c.loop-k.place c.loop-k.place c.requires (subst (λ n. Carried c.args.rows.now c.args.indices.now c.args.place c.loop-k.indices c.loop-k.place n) (let z = c.loop-k-test.false in omega (arith, z)) c.loop-k.invariant)
