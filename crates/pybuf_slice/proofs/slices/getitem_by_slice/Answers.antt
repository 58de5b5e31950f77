-- The indices of a slice are places of elements, and a step of 1 reads a range.
use Rattle.std.proofs.Common.{◌≡◌, length, ap, sym, ◌∙◌}
use Rattle.std.specs.Prelude.{slice_range}
use Rattle.std.specs.Int.{w64}
use Rattle.std.proofs.Common.{of_z}
use Rattle.pybuf_index.specs.Parts.{picks_of}
use Rattle.pybuf_slice.specs.Reads.{elements_at}
use Rattle.pybuf_slice.proofs.ReadLemmas.{elements_by_one, one_from_bits}
use Rattle.pybuf_slice.proofs.slices.getitem_by_slice.Goals as goal

pub returns-then-step-eq1 : goal.returns-then-step-eq1
returns-then-step-eq1 g c =
    let adjusted_part = c.adjust_indices-step.ensures in
    let one = adjusted_part.step ∙ one_from_bits c.args.slice.step adjusted_part.saturated.step (ap (of_z w64) (sym adjusted_part.step) ∙ c.if-step-eq1.true) in
    let range : elements_at c.args.items.now (picks_of (length c.args.items.now) c.args.slice) ≡ slice_range c.args.items.now c.adjust_indices-step.result.0.start c.adjust_indices-step.result.0.end =
    ap (elements_at c.args.items.now) (sym adjusted_part.picks)
    ∙ elements_by_one c.indices_of_a_span.ensures c.args.items.now c.adjust_indices-step.result.0.start c.adjust_indices-step.result.0.end c.adjust_indices-step.result.1 one adjusted_part.ordered adjusted_part.within in
    rw range c.do_slice.ensures

pub gather-requires : goal.gather-requires
gather-requires g c =
    rw c.iter.ensures
    (c.indices_of_a_slice.ensures (length c.args.items.now) c.args.slice.start c.args.slice.stop c.args.slice.step c.adjust_indices-step.ensures.saturated.moves).inside
