use Rattle.std.proofs.Common.{rules, arith, ◌≡◌, ◌<◌, ◌≤ℤ◌, ◌<ℤ◌, ◌+ℤ◌, ◌*ℤ◌, ◌^◌, ℕ, ℤ, pos, Ok, Err, List, length, true, false, refl, sym, subst, ap, ◌∙◌, SFits, w64, to_z, of_z}
use Rattle.std.proofs.lemmas.Int.{to_z-of_z}
use Rattle.pybuf_value.specs.Halting.{refusal_of}
use Rattle.pybuf_index.specs.Places.{entry_in}
use Rattle.pybuf_desc.specs.Descriptor.{shape_of}
use Rattle.pybuf_nd.specs.Selections.{has_zero}
use Rattle.pybuf_nd.proofs.Answered.{entries_small, next_is, place_named, plane_entry, plane_extent, plane_valid, plane_stands}
use Rattle.pybuf_nd.proofs.MadeLemmas.{dim_at}
use Rattle.pybuf_nd.proofs.Planing.{IsEntry}
use Rattle.pybuf_nd.proofs.plane.pick.Goals as goal

pub offset_bounds-dims-axis : goal.offset_bounds-dims-axis
offset_bounds-dims-axis c = let few = c.requires.placed.valid.few_dimensions in let below = c.requires.axis_exists in omega (arith, few, below)

pub bounds-dims-axis : goal.bounds-dims-axis
bounds-dims-axis c = subst (λ (ds : List (ℕ × ℤ × ℤ)). c.args.axis < length ds) (sym c.dim_desc-dims.ensures) c.requires.axis_exists

pub offset_bounds-dims-axis-2 : goal.offset_bounds-dims-axis-2
offset_bounds-dims-axis-2 c = let few = c.requires.placed.valid.few_dimensions in let below = c.requires.axis_exists in omega (arith, few, below)

pub bounds-dims-axis-2 : goal.bounds-dims-axis-2
bounds-dims-axis-2 c = subst (λ (ds : List (ℕ × ℤ × ℤ)). c.args.axis < length ds) (sym c.dim_desc-dims.ensures) c.requires.axis_exists

pub entry_in-requires : goal.entry_in-requires
entry_in-requires c =
    entries_small c.args.desc.now c.args.start c.dim_desc-dims.result.now c.requires.placed c.dim_desc-dims.ensures c.args.axis (0, pos 0, pos 0) (subst (λ (ds : List (ℕ × ℤ × ℤ)). c.args.axis < length ds) (sym c.dim_desc-dims.ensures) c.requires.axis_exists)

pub dims_without-requires : goal.dims_without-requires
dims_without-requires c = subst (λ (ds : List (ℕ × ℤ × ℤ)). c.args.axis < length ds) (sym c.dim_desc-dims.ensures) c.requires.axis_exists

pub returns-in-Err-clause-refused : goal.returns-in-Err-clause-refused
returns-in-Err-clause-refused c =
    let fp : SFits w64 c.args.place = search rules in
    let named : entry_in (dim_at c.dim_desc-dims.result.now c.args.axis).0 c.args.place ≡ Err c.in-Err.fault = ap (entry_in (dim_at c.dim_desc-dims.result.now c.args.axis).0) (sym (to_z-of_z w64 c.args.place fp)) ∙ sym c.entry_in.ensures ∙ c.in-Err.is in
    ap refusal_of (sym (place_named c.args.desc.now c.dim_desc-dims.result.now c.args.axis c.args.place (Err c.in-Err.fault) (has_zero (shape_of c.dim_desc-dims.result.now)) c.dim_desc-dims.ensures named refl))

pub returns-then-has_zero_entry-clause-refused : goal.returns-then-has_zero_entry-clause-refused
returns-then-has_zero_entry-clause-refused c =
    let fp : SFits w64 c.args.place = search rules in
    let named : entry_in (dim_at c.dim_desc-dims.result.now c.args.axis).0 c.args.place ≡ Ok c.in-Ok.entry = ap (entry_in (dim_at c.dim_desc-dims.result.now c.args.axis).0) (sym (to_z-of_z w64 c.args.place fp)) ∙ sym c.entry_in.ensures ∙ c.in-Ok.is in
    ap refusal_of (sym (place_named c.args.desc.now c.dim_desc-dims.result.now c.args.axis c.args.place (Ok c.in-Ok.entry) true c.dim_desc-dims.ensures named (sym c.has_zero_entry.ensures ∙ c.if-has_zero_entry.true)))

pub way_to-requires-clause-entry_fits : goal.way_to-requires-clause-entry_fits
way_to-requires-clause-entry_fits c =
    let fp : SFits w64 c.args.place = search rules in
    let named : entry_in (dim_at c.dim_desc-dims.result.now c.args.axis).0 c.args.place ≡ Ok c.in-Ok.entry = ap (entry_in (dim_at c.dim_desc-dims.result.now c.args.axis).0) (sym (to_z-of_z w64 c.args.place fp)) ∙ sym c.entry_in.ensures ∙ c.in-Ok.is in
    let some : has_zero (shape_of c.dim_desc-dims.result.now) ≡ false = sym c.has_zero_entry.ensures ∙ c.if-has_zero_entry.false in
    let at : IsEntry c.args.start c.in-Ok.entry (dim_at c.args.desc.now.dims c.args.axis).1 = plane_entry c.args.desc.now c.args.start c.args.axis c.in-Ok.entry c.args.place c.dim_desc-dims.result.now c.requires.placed c.requires.axis_exists c.dim_desc-dims.ensures named some in
    at.entry_fits

pub way_to-requires-clause-product_fits : goal.way_to-requires-clause-product_fits
way_to-requires-clause-product_fits c =
    let fp : SFits w64 c.args.place = search rules in
    let named : entry_in (dim_at c.dim_desc-dims.result.now c.args.axis).0 c.args.place ≡ Ok c.in-Ok.entry = ap (entry_in (dim_at c.dim_desc-dims.result.now c.args.axis).0) (sym (to_z-of_z w64 c.args.place fp)) ∙ sym c.entry_in.ensures ∙ c.in-Ok.is in
    let some : has_zero (shape_of c.dim_desc-dims.result.now) ≡ false = sym c.has_zero_entry.ensures ∙ c.if-has_zero_entry.false in
    let at : IsEntry c.args.start c.in-Ok.entry (dim_at c.args.desc.now.dims c.args.axis).1 = plane_entry c.args.desc.now c.args.start c.args.axis c.in-Ok.entry c.args.place c.dim_desc-dims.result.now c.requires.placed c.requires.axis_exists c.dim_desc-dims.ensures named some in
    let fs : SFits w64 (dim_at c.dim_desc-dims.result.now c.args.axis).1 = search rules in
    let stride : to_z w64 (of_z w64 (dim_at c.dim_desc-dims.result.now c.args.axis).1) ≡ (dim_at c.args.desc.now.dims c.args.axis).1 = to_z-of_z w64 (dim_at c.dim_desc-dims.result.now c.args.axis).1 fs ∙ ap (λ ds. (dim_at ds c.args.axis).1) c.dim_desc-dims.ensures in
    subst (λ t. SFits w64 (pos c.in-Ok.entry *ℤ t)) (sym stride) at.way_fits

pub place_after-next-requires-clause-place_fits : goal.place_after-next-requires-clause-place_fits
place_after-next-requires-clause-place_fits c =
    let fp : SFits w64 c.args.place = search rules in
    let named : entry_in (dim_at c.dim_desc-dims.result.now c.args.axis).0 c.args.place ≡ Ok c.in-Ok.entry = ap (entry_in (dim_at c.dim_desc-dims.result.now c.args.axis).0) (sym (to_z-of_z w64 c.args.place fp)) ∙ sym c.entry_in.ensures ∙ c.in-Ok.is in
    let some : has_zero (shape_of c.dim_desc-dims.result.now) ≡ false = sym c.has_zero_entry.ensures ∙ c.if-has_zero_entry.false in
    let at : IsEntry c.args.start c.in-Ok.entry (dim_at c.args.desc.now.dims c.args.axis).1 = plane_entry c.args.desc.now c.args.start c.args.axis c.in-Ok.entry c.args.place c.dim_desc-dims.result.now c.requires.placed c.requires.axis_exists c.dim_desc-dims.ensures named some in
    at.start_fits

pub place_after-next-requires-clause-low : goal.place_after-next-requires-clause-low
place_after-next-requires-clause-low c =
    let fp : SFits w64 c.args.place = search rules in
    let named : entry_in (dim_at c.dim_desc-dims.result.now c.args.axis).0 c.args.place ≡ Ok c.in-Ok.entry = ap (entry_in (dim_at c.dim_desc-dims.result.now c.args.axis).0) (sym (to_z-of_z w64 c.args.place fp)) ∙ sym c.entry_in.ensures ∙ c.in-Ok.is in
    let some : has_zero (shape_of c.dim_desc-dims.result.now) ≡ false = sym c.has_zero_entry.ensures ∙ c.if-has_zero_entry.false in
    let at : IsEntry c.args.start c.in-Ok.entry (dim_at c.args.desc.now.dims c.args.axis).1 = plane_entry c.args.desc.now c.args.start c.args.axis c.in-Ok.entry c.args.place c.dim_desc-dims.result.now c.requires.placed c.requires.axis_exists c.dim_desc-dims.ensures named some in
    let fs : SFits w64 (dim_at c.dim_desc-dims.result.now c.args.axis).1 = search rules in
    let stride : to_z w64 (of_z w64 (dim_at c.dim_desc-dims.result.now c.args.axis).1) ≡ (dim_at c.args.desc.now.dims c.args.axis).1 = to_z-of_z w64 (dim_at c.dim_desc-dims.result.now c.args.axis).1 fs ∙ ap (λ ds. (dim_at ds c.args.axis).1) c.dim_desc-dims.ensures in
    let fw : SFits w64 c.way_to.result = search rules in
    let way : to_z w64 (of_z w64 c.way_to.result) ≡ pos c.in-Ok.entry *ℤ (dim_at c.args.desc.now.dims c.args.axis).1 = to_z-of_z w64 c.way_to.result fw ∙ c.way_to.ensures ∙ ap (λ t. pos c.in-Ok.entry *ℤ t) stride in
    subst (λ z. pos 0 ≤ℤ (pos c.args.start +ℤ z)) (sym way) at.low

pub place_after-next-requires-clause-high : goal.place_after-next-requires-clause-high
place_after-next-requires-clause-high c =
    let fp : SFits w64 c.args.place = search rules in
    let named : entry_in (dim_at c.dim_desc-dims.result.now c.args.axis).0 c.args.place ≡ Ok c.in-Ok.entry = ap (entry_in (dim_at c.dim_desc-dims.result.now c.args.axis).0) (sym (to_z-of_z w64 c.args.place fp)) ∙ sym c.entry_in.ensures ∙ c.in-Ok.is in
    let some : has_zero (shape_of c.dim_desc-dims.result.now) ≡ false = sym c.has_zero_entry.ensures ∙ c.if-has_zero_entry.false in
    let at : IsEntry c.args.start c.in-Ok.entry (dim_at c.args.desc.now.dims c.args.axis).1 = plane_entry c.args.desc.now c.args.start c.args.axis c.in-Ok.entry c.args.place c.dim_desc-dims.result.now c.requires.placed c.requires.axis_exists c.dim_desc-dims.ensures named some in
    let fs : SFits w64 (dim_at c.dim_desc-dims.result.now c.args.axis).1 = search rules in
    let stride : to_z w64 (of_z w64 (dim_at c.dim_desc-dims.result.now c.args.axis).1) ≡ (dim_at c.args.desc.now.dims c.args.axis).1 = to_z-of_z w64 (dim_at c.dim_desc-dims.result.now c.args.axis).1 fs ∙ ap (λ ds. (dim_at ds c.args.axis).1) c.dim_desc-dims.ensures in
    let fw : SFits w64 c.way_to.result = search rules in
    let way : to_z w64 (of_z w64 c.way_to.result) ≡ pos c.in-Ok.entry *ℤ (dim_at c.args.desc.now.dims c.args.axis).1 = to_z-of_z w64 c.way_to.result fw ∙ c.way_to.ensures ∙ ap (λ t. pos c.in-Ok.entry *ℤ t) stride in
    subst (λ z. (pos c.args.start +ℤ z) <ℤ pos (2 ^ 63)) (sym way) at.high

pub in_dims-requires : goal.in_dims-requires
in_dims-requires c =
    let some : has_zero (shape_of c.dim_desc-dims.result.now) ≡ false = sym c.has_zero_entry.ensures ∙ c.if-has_zero_entry.false in
    plane_extent c.args.desc.now c.args.start c.args.axis c.dim_desc-dims.result.now c.in_ok-rest.rest c.requires.placed c.requires.axis_exists c.dim_desc-dims.ensures some c.in_ok-rest.ensures

pub returns-clause-refused : goal.returns-clause-refused
returns-clause-refused c =
    let fp : SFits w64 c.args.place = search rules in
    let named : entry_in (dim_at c.dim_desc-dims.result.now c.args.axis).0 c.args.place ≡ Ok c.in-Ok.entry = ap (entry_in (dim_at c.dim_desc-dims.result.now c.args.axis).0) (sym (to_z-of_z w64 c.args.place fp)) ∙ sym c.entry_in.ensures ∙ c.in-Ok.is in
    let some : has_zero (shape_of c.dim_desc-dims.result.now) ≡ false = sym c.has_zero_entry.ensures ∙ c.if-has_zero_entry.false in
    ap refusal_of (sym (place_named c.args.desc.now c.dim_desc-dims.result.now c.args.axis c.args.place (Ok c.in-Ok.entry) false c.dim_desc-dims.ensures named some))

pub returns-clause-valid : goal.returns-clause-valid
returns-clause-valid c =
    let fp : SFits w64 c.args.place = search rules in
    let named : entry_in (dim_at c.dim_desc-dims.result.now c.args.axis).0 c.args.place ≡ Ok c.in-Ok.entry = ap (entry_in (dim_at c.dim_desc-dims.result.now c.args.axis).0) (sym (to_z-of_z w64 c.args.place fp)) ∙ sym c.entry_in.ensures ∙ c.in-Ok.is in
    let some : has_zero (shape_of c.dim_desc-dims.result.now) ≡ false = sym c.has_zero_entry.ensures ∙ c.if-has_zero_entry.false in
    let at : IsEntry c.args.start c.in-Ok.entry (dim_at c.args.desc.now.dims c.args.axis).1 = plane_entry c.args.desc.now c.args.start c.args.axis c.in-Ok.entry c.args.place c.dim_desc-dims.result.now c.requires.placed c.requires.axis_exists c.dim_desc-dims.ensures named some in
    let fs : SFits w64 (dim_at c.dim_desc-dims.result.now c.args.axis).1 = search rules in
    let stride : to_z w64 (of_z w64 (dim_at c.dim_desc-dims.result.now c.args.axis).1) ≡ (dim_at c.args.desc.now.dims c.args.axis).1 = to_z-of_z w64 (dim_at c.dim_desc-dims.result.now c.args.axis).1 fs ∙ ap (λ ds. (dim_at ds c.args.axis).1) c.dim_desc-dims.ensures in
    let fw : SFits w64 c.way_to.result = search rules in
    let way : to_z w64 (of_z w64 c.way_to.result) ≡ pos c.in-Ok.entry *ℤ (dim_at c.args.desc.now.dims c.args.axis).1 = to_z-of_z w64 c.way_to.result fw ∙ c.way_to.ensures ∙ ap (λ t. pos c.in-Ok.entry *ℤ t) stride in
    let next : pos c.place_after-next.result ≡ pos c.args.start +ℤ pos c.in-Ok.entry *ℤ (dim_at c.args.desc.now.dims c.args.axis).1 = next_is c.place_after-next.result c.args.start (to_z w64 (of_z w64 c.way_to.result)) (pos c.in-Ok.entry *ℤ (dim_at c.args.desc.now.dims c.args.axis).1) c.place_after-next.ensures way at.low in
    plane_valid c.args.desc.now c.args.start c.args.axis c.in-Ok.entry c.place_after-next.result c.args.place c.dim_desc-dims.result.now c.in_ok-rest.rest c.in_ok-made.made c.requires.axis_exists c.dim_desc-dims.ensures named some c.in_ok-rest.ensures c.in_ok-made.ensures next

pub returns-clause-stands : goal.returns-clause-stands
returns-clause-stands c =
    let fp : SFits w64 c.args.place = search rules in
    let named : entry_in (dim_at c.dim_desc-dims.result.now c.args.axis).0 c.args.place ≡ Ok c.in-Ok.entry = ap (entry_in (dim_at c.dim_desc-dims.result.now c.args.axis).0) (sym (to_z-of_z w64 c.args.place fp)) ∙ sym c.entry_in.ensures ∙ c.in-Ok.is in
    let some : has_zero (shape_of c.dim_desc-dims.result.now) ≡ false = sym c.has_zero_entry.ensures ∙ c.if-has_zero_entry.false in
    let at : IsEntry c.args.start c.in-Ok.entry (dim_at c.args.desc.now.dims c.args.axis).1 = plane_entry c.args.desc.now c.args.start c.args.axis c.in-Ok.entry c.args.place c.dim_desc-dims.result.now c.requires.placed c.requires.axis_exists c.dim_desc-dims.ensures named some in
    let fs : SFits w64 (dim_at c.dim_desc-dims.result.now c.args.axis).1 = search rules in
    let stride : to_z w64 (of_z w64 (dim_at c.dim_desc-dims.result.now c.args.axis).1) ≡ (dim_at c.args.desc.now.dims c.args.axis).1 = to_z-of_z w64 (dim_at c.dim_desc-dims.result.now c.args.axis).1 fs ∙ ap (λ ds. (dim_at ds c.args.axis).1) c.dim_desc-dims.ensures in
    let fw : SFits w64 c.way_to.result = search rules in
    let way : to_z w64 (of_z w64 c.way_to.result) ≡ pos c.in-Ok.entry *ℤ (dim_at c.args.desc.now.dims c.args.axis).1 = to_z-of_z w64 c.way_to.result fw ∙ c.way_to.ensures ∙ ap (λ t. pos c.in-Ok.entry *ℤ t) stride in
    let next : pos c.place_after-next.result ≡ pos c.args.start +ℤ pos c.in-Ok.entry *ℤ (dim_at c.args.desc.now.dims c.args.axis).1 = next_is c.place_after-next.result c.args.start (to_z w64 (of_z w64 c.way_to.result)) (pos c.in-Ok.entry *ℤ (dim_at c.args.desc.now.dims c.args.axis).1) c.place_after-next.ensures way at.low in
    plane_stands c.args.desc.now c.args.start c.args.axis c.in-Ok.entry c.place_after-next.result c.args.place c.dim_desc-dims.result.now c.in_ok-rest.rest c.in_ok-made.made c.requires.axis_exists c.dim_desc-dims.ensures named some c.in_ok-rest.ensures c.in_ok-made.ensures next
