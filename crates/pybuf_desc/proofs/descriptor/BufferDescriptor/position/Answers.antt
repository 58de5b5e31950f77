use Rattle.std.proofs.Common.{◌≡◌, ℤ, ℕ, pos, Ok, Err, slice_get, get_or, length, rules, SFits, w64, ◌∙◌, sym, ap, subst}
use Rattle.std.proofs.lemmas.Int.{to_z-of_z}
use Rattle.pybuf_index.specs.Facts.{entry_below}
use Rattle.pybuf_index.specs.Places.{entry_in}
use Rattle.pybuf_desc.specs.Positions.{position_of}
use Rattle.pybuf_desc.proofs.Indices.{position_from-0}
use Rattle.pybuf_desc.proofs.Moves.{moves, index_fits}
use Rattle.pybuf_desc.proofs.Track.{Track, track_from_valid}
use Rattle.pybuf_desc.proofs.FromTheEnd.{position_more, position_refused, position_end, position_of_none, position_is_place, first_dim, AreNonzero-from_later}
use Rattle.pybuf_desc.proofs.descriptor.BufferDescriptor.position.Goals as goal

pub returns-then-first-eq0-clause-sum : goal.returns-then-first-eq0-clause-sum
returns-then-first-eq0-clause-sum c =
    let f = first_dim c.dim_desc-dims.result.now c.in-Some.first.now c.in-Some.ensures.value in
    sym (ap (λ ds. position_of c.args.indices.now ds) (sym c.dim_desc-dims.ensures)
    ∙ position_of_none c.args.indices.now c.dim_desc-dims.result.now (c.requires.one_each ∙ ap (λ ds. length ds) (sym c.dim_desc-dims.ensures)) f.0
    (ap (λ (d : ℕ × ℤ × ℤ). d.0) f.1 ∙ c.if-first-eq0.true))

pub loop-k-init : goal.loop-k-init
loop-k-init c = (
  subst (λ dims. Track dims (pos 0)) (sym c.dim_desc-dims.ensures)
      (track_from_valid c.args.self.now c.requires.valid
      (AreNonzero-from_later c.args.self.now.dims c.in-Some.first.now (c.in-Some.ensures.value ∙ ap (λ ds. slice_get ds 0) c.dim_desc-dims.ensures) c.if-first-eq0.false c.requires.valid.placed.valid.later_entries)),
  position_from-0 (position_of c.args.indices.now c.dim_desc-dims.result.now),
)

pub returns-in_err-index-clause-sum : goal.returns-in_err-index-clause-sum
returns-in_err-index-clause-sum c =
    let z : SFits w64 (get_or c.args.indices.now c.loop-k.k (pos 0)) = search rules in
    let w : entry_in (get_or c.dim_desc-dims.result.now c.loop-k.k (0, pos 0, pos 0)).0 (get_or c.args.indices.now c.loop-k.k (pos 0)) ≡ Err c.in_err-index.field-0.0 = simp to_z-of_z at (sym c.in_err-index.ensures) in
    let whole : position_of c.args.indices.now c.args.self.now.dims ≡ Err c.in_err-index.field-0.0 =
    ap (λ ds. position_of c.args.indices.now ds) (sym c.dim_desc-dims.ensures)
    ∙ position_refused c.args.indices.now c.dim_desc-dims.result.now c.loop-k.k _ c.in_err-index.field-0.0 _
    (c.requires.one_each ∙ ap (λ ds. length ds) (sym c.dim_desc-dims.ensures)) c.loop-k-test.true w c.loop-k.invariant.1 in
    search (rules, whole)

pub overflow_cast-offset : goal.overflow_cast-offset
overflow_cast-offset c =
    index_fits c.dim_desc-dims.result.now c.loop-k.k _ c.in_ok-index.index c.loop-k-test.true (entry_below _ _ _ (sym c.in_ok-index.ensures)) c.loop-k.invariant.0

pub overflow_mul-offset : goal.overflow_mul-offset
overflow_mul-offset c =
    let f : SFits w64 (get_or c.dim_desc-dims.result.now c.loop-k.k (0, pos 0, pos 0)).1 = search rules in
    (moves c.dim_desc-dims.result.now c.loop-k.k _ c.in_ok-index.index c.loop-k-test.true f (entry_below _ _ _ (sym c.in_ok-index.ensures)) c.loop-k.invariant.0).product_fits

pub overflow_add-offset : goal.overflow_add-offset
overflow_add-offset c =
    let f : SFits w64 (get_or c.dim_desc-dims.result.now c.loop-k.k (0, pos 0, pos 0)).1 = search rules in
    (moves c.dim_desc-dims.result.now c.loop-k.k _ c.in_ok-index.index c.loop-k-test.true f (entry_below _ _ _ (sym c.in_ok-index.ensures)) c.loop-k.invariant.0).sum_fits

pub loop-k-preserved : goal.loop-k-preserved
loop-k-preserved c =
    let f : SFits w64 (get_or c.dim_desc-dims.result.now c.loop-k.k (0, pos 0, pos 0)).1 = search rules in
    let z : SFits w64 (get_or c.args.indices.now c.loop-k.k (pos 0)) = search rules in
    let w : entry_in (get_or c.dim_desc-dims.result.now c.loop-k.k (0, pos 0, pos 0)).0 (get_or c.args.indices.now c.loop-k.k (pos 0)) ≡ Ok c.in_ok-index.index = simp to_z-of_z at (sym c.in_ok-index.ensures) in
    let m = moves c.dim_desc-dims.result.now c.loop-k.k _ c.in_ok-index.index c.loop-k-test.true f (entry_below _ _ _ (sym c.in_ok-index.ensures)) c.loop-k.invariant.0 in (
      m.track,
      position_more c.args.indices.now c.dim_desc-dims.result.now c.loop-k.k c.in_ok-index.index _ _ _
          (c.requires.one_each ∙ ap (λ ds. length ds) (sym c.dim_desc-dims.ensures)) c.loop-k-test.true w m.result_is c.loop-k.invariant.1,
    )

pub returns-clause-place : goal.returns-clause-place
returns-clause-place c =
    position_is_place c.args.indices.now c.args.self.now.dims _ c.requires.one_each
    (ap (λ ds. position_of c.args.indices.now ds) (sym c.dim_desc-dims.ensures)
    ∙ position_end c.args.indices.now c.dim_desc-dims.result.now c.loop-k.k _ _ c.loop-k-test.false c.loop-k.invariant.1)
