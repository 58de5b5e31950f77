use Rattle.std.proofs.Common.{◌+ℤ◌, ℤ, pos, Some, get_or, rules, SFits, w64, ◌∙◌, sym, ap, subst}
use Rattle.pybuf_desc.specs.Positions.{AreIndices, offset_of}
use Rattle.pybuf_desc.proofs.Indices.{indices_at, AreNonzero-from_indices, offset_more, offset_of-end, place_of_item, plus-0}
use Rattle.pybuf_desc.proofs.Moves.{moves, index_fits}
use Rattle.pybuf_desc.proofs.Track.{Track, track_from_valid}
use Rattle.pybuf_desc.proofs.descriptor.BufferDescriptor.fast_position.Goals as goal

pub loop-k-init : goal.loop-k-init
loop-k-init c = (
  subst (λ dims. Track dims (pos 0)) (sym c.dim_desc-dims.ensures) (track_from_valid c.args.self.now c.requires.valid (AreNonzero-from_indices c.args.indices.now c.args.self.now.dims c.requires.in_range)),
  subst (λ dims. AreIndices c.args.indices.now dims) (sym c.dim_desc-dims.ensures) c.requires.in_range,
  plus-0 (offset_of c.args.indices.now c.dim_desc-dims.result.now),
)

pub bounds-indices-k : goal.bounds-indices-k
bounds-indices-k c = (indices_at c.args.indices.now c.dim_desc-dims.result.now c.loop-k.k c.loop-k-test.true c.loop-k.invariant.1).0

pub overflow_cast-offset : goal.overflow_cast-offset
overflow_cast-offset c =
    index_fits c.dim_desc-dims.result.now c.loop-k.k _ (get_or c.args.indices.now c.loop-k.k 0) c.loop-k-test.true
    (indices_at c.args.indices.now c.dim_desc-dims.result.now c.loop-k.k c.loop-k-test.true c.loop-k.invariant.1).1 c.loop-k.invariant.0

pub overflow_mul-offset : goal.overflow_mul-offset
overflow_mul-offset c =
    let f : SFits w64 (get_or c.dim_desc-dims.result.now c.loop-k.k (0, pos 0, pos 0)).1 = search rules in
    (moves c.dim_desc-dims.result.now c.loop-k.k _ (get_or c.args.indices.now c.loop-k.k 0) c.loop-k-test.true f
    (indices_at c.args.indices.now c.dim_desc-dims.result.now c.loop-k.k c.loop-k-test.true c.loop-k.invariant.1).1 c.loop-k.invariant.0).product_fits

pub overflow_add-offset : goal.overflow_add-offset
overflow_add-offset c =
    let f : SFits w64 (get_or c.dim_desc-dims.result.now c.loop-k.k (0, pos 0, pos 0)).1 = search rules in
    (moves c.dim_desc-dims.result.now c.loop-k.k _ (get_or c.args.indices.now c.loop-k.k 0) c.loop-k-test.true f
    (indices_at c.args.indices.now c.dim_desc-dims.result.now c.loop-k.k c.loop-k-test.true c.loop-k.invariant.1).1 c.loop-k.invariant.0).sum_fits

pub loop-k-preserved : goal.loop-k-preserved
loop-k-preserved c =
    let f : SFits w64 (get_or c.dim_desc-dims.result.now c.loop-k.k (0, pos 0, pos 0)).1 = search rules in
    let at = indices_at c.args.indices.now c.dim_desc-dims.result.now c.loop-k.k c.loop-k-test.true c.loop-k.invariant.1 in
    let m = moves c.dim_desc-dims.result.now c.loop-k.k _ (get_or c.args.indices.now c.loop-k.k 0) c.loop-k-test.true f at.1 c.loop-k.invariant.0 in
    (m.track, at.2, offset_more c.args.indices.now c.dim_desc-dims.result.now c.loop-k.k _ _ at.0 c.loop-k-test.true c.loop-k.invariant.2 m.result_is)

pub returns-clause-sum : goal.returns-clause-sum
returns-clause-sum c =
    sym (ap (λ ds. offset_of c.args.indices.now ds) (sym c.dim_desc-dims.ensures) ∙ c.loop-k.invariant.2
    ∙ offset_of-end c.args.indices.now c.dim_desc-dims.result.now c.loop-k.k _ c.loop-k-test.false)

pub returns-clause-place : goal.returns-clause-place
returns-clause-place c = λ start.
    place_of_item c.args.indices.now c.args.self.now.dims start c.requires.in_range
    ∙ ap (λ (n : ℤ). Some (start +ℤ n)) (ap (λ ds. offset_of c.args.indices.now ds) (sym c.dim_desc-dims.ensures) ∙ c.loop-k.invariant.2
    ∙ offset_of-end c.args.indices.now c.dim_desc-dims.result.now c.loop-k.k _ c.loop-k-test.false)
