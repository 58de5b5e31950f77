use Rattle.std.proofs.Common.{rules, arith, ◌≡◌, ◌+ℤ◌, ◌<◌, [], ◌∷◌, ℕ, ℤ, pos, List, length, take, refl, sym, ap, ◌∙◌, subst, length-take-le, length-set}
use Rattle.std.proofs.lemmas.List.Elements.{recursion_from_All}
use Rattle.pybuf_index.specs.Parts.{IsSaturated, picks_of}
use Rattle.pybuf_desc.specs.Descriptor.{shape_of}
use Rattle.pybuf_desc.specs.Positions.{AreIndices, offset_of}
use Rattle.pybuf_nd.specs.Dims.{firsts_of}
use Rattle.pybuf_nd.specs.Selections.{has_zero, counts_of, picks_of_each}
use Rattle.pybuf_nd.proofs.Answered.{entries_small}
use Rattle.pybuf_nd.proofs.CutBits.{first_more, none_found, firsts_done, firsts_are_indices}
use Rattle.pybuf_nd.proofs.MadeLemmas.{dim_at}
use Rattle.pybuf_nd.proofs.selection.start_of_selection.Goals as goal

pub loop-k-init : goal.loop-k-init
loop-k-init c = (refl, refl, refl)

pub bounds-slices-k : goal.bounds-slices-k
bounds-slices-k c =
    let long = c.requires.one_each in let same : length c.dim_desc-dims.result.now ≡ length c.args.desc.now.dims = ap (λ (ds : List (ℕ × ℤ × ℤ)). length ds) c.dim_desc-dims.ensures in let below = c.loop-k-test.true in
    omega (arith, long, same, below)

pub iter-requires : goal.iter-requires
iter-requires c = entries_small c.args.desc.now c.args.start c.dim_desc-dims.result.now c.requires.placed c.dim_desc-dims.ensures c.loop-k.k (0, pos 0, pos 0) c.loop-k-test.true

pub returns-in-None : goal.returns-in-None
returns-in-None c = λ some.
    let same : length c.dim_desc-dims.result.now ≡ length c.args.desc.now.dims = ap (λ (ds : List (ℕ × ℤ × ℤ)). length ds) c.dim_desc-dims.ensures in
    let below : c.loop-k.k < length c.args.slices.now = (let long = c.requires.one_each in let test = c.loop-k-test.true in omega (arith, long, same, test)) in
    let none : picks_of (dim_at c.dim_desc-dims.result.now c.loop-k.k).0 c.index-slices-k.result ≡ [] = search rules in
    absurd (none_found c.dim_desc-dims.result.now c.args.slices.now c.loop-k.k c.index-slices-k.result c.loop-k-test.true below (sym c.index-slices-k.is) none c.loop-k.invariant.1
    (ap (λ (ds : List (ℕ × ℤ × ℤ)). has_zero (counts_of (picks_of_each (shape_of ds) c.args.slices.now))) c.dim_desc-dims.ensures ∙ some))

pub bounds-firsts-k : goal.bounds-firsts-k
bounds-firsts-k c =
    let few = c.requires.placed.valid.few_dimensions in let same : length c.dim_desc-dims.result.now ≡ length c.args.desc.now.dims = ap (λ (ds : List (ℕ × ℤ × ℤ)). length ds) c.dim_desc-dims.ensures in let below = c.loop-k-test.true in
    omega (arith, few, same, below)

pub loop-k-preserved : goal.loop-k-preserved
loop-k-preserved c =
    let same : length c.dim_desc-dims.result.now ≡ length c.args.desc.now.dims = ap (λ (ds : List (ℕ × ℤ × ℤ)). length ds) c.dim_desc-dims.ensures in
    let below : c.loop-k.k < length c.args.slices.now = (let long = c.requires.one_each in let test = c.loop-k-test.true in omega (arith, long, same, test)) in
    let room : c.loop-k.k < length c.loop-k.firsts = (let long = c.loop-k.invariant.2 in let few = c.requires.placed.valid.few_dimensions in let test = c.loop-k-test.true in omega (arith, long, few, same, test)) in
    let found : picks_of (dim_at c.dim_desc-dims.result.now c.loop-k.k).0 c.index-slices-k.result ≡ c.in-Some.first ∷ c.next.new.self = search rules in
    let more = first_more c.dim_desc-dims.result.now c.args.slices.now c.loop-k.k c.in-Some.first c.index-slices-k.result c.next.new.self c.loop-k.firsts c.loop-k-test.true below room (sym c.index-slices-k.is) found c.loop-k.invariant.0 c.loop-k.invariant.1 in
    (more.0, more.1, length-set c.loop-k.firsts c.loop-k.k c.in-Some.first ∙ c.loop-k.invariant.2)

pub slice_bounds-firsts-end : goal.slice_bounds-firsts-end
slice_bounds-firsts-end c =
    let few = c.requires.placed.valid.few_dimensions in let same : length c.dim_desc-dims.result.now ≡ length c.args.desc.now.dims = ap (λ (ds : List (ℕ × ℤ × ℤ)). length ds) c.dim_desc-dims.ensures in let long = c.loop-k.invariant.2 in
    omega (arith, few, same, long)

pub slice_bounds-place_at-end : goal.slice_bounds-place_at-end
slice_bounds-place_at-end c =
    let few = c.requires.placed.valid.few_dimensions in let same : length c.dim_desc-dims.result.now ≡ length c.args.desc.now.dims = ap (λ (ds : List (ℕ × ℤ × ℤ)). length ds) c.dim_desc-dims.ensures in let long = c.loop-k.invariant.2 in
    sym (length-take-le (length c.dim_desc-dims.result.now) c.loop-k.firsts (omega (arith, few, same, long)))

pub place_at-requires-clause-in_range : goal.place_at-requires-clause-in_range
place_at-requires-clause-in_range c =
    let end : c.loop-k.k ≡ length c.dim_desc-dims.result.now = (let low = c.loop-k-test.false in let high = c.loop-k.auto.k-end in omega (arith, low, high)) in
    let done = firsts_done c.dim_desc-dims.result.now c.args.slices.now c.loop-k.k c.loop-k.firsts end c.loop-k.invariant.0 c.loop-k.invariant.1 in
    let long : length c.args.slices.now ≡ length c.dim_desc-dims.result.now = c.requires.one_each ∙ ap (λ (ds : List (ℕ × ℤ × ℤ)). length ds) (sym c.dim_desc-dims.ensures) in
    subst (λ (ds : List (ℕ × ℤ × ℤ)). AreIndices (take (length c.dim_desc-dims.result.now) c.loop-k.firsts) ds) c.dim_desc-dims.ensures
    (subst (λ (is : List ℕ). AreIndices is c.dim_desc-dims.result.now) (sym done.0)
    (firsts_are_indices c.slices_have_spans.ensures c.dim_desc-dims.result.now c.args.slices.now (recursion_from_All IsSaturated c.args.slices.now c.requires.saturated) long done.1))

pub returns : goal.returns
returns c = λ some.
    let end : c.loop-k.k ≡ length c.dim_desc-dims.result.now = (let low = c.loop-k-test.false in let high = c.loop-k.auto.k-end in omega (arith, low, high)) in
    let done = firsts_done c.dim_desc-dims.result.now c.args.slices.now c.loop-k.k c.loop-k.firsts end c.loop-k.invariant.0 c.loop-k.invariant.1 in
    c.place_at.ensures
    ∙ ap (λ (is : List ℕ). pos c.args.start +ℤ offset_of is c.args.desc.now.dims) done.0
    ∙ ap (λ (ds : List (ℕ × ℤ × ℤ)). pos c.args.start +ℤ offset_of (firsts_of (picks_of_each (shape_of ds) c.args.slices.now)) c.args.desc.now.dims) c.dim_desc-dims.ensures
