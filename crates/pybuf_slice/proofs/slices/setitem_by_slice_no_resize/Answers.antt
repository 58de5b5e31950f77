-- A step of 1 picks as many places as its range has.
use Rattle.std.proofs.Common.{◌-◌, ◌∙◌, drop, length, ap, sym, arith, of_z, length-take, length-drop}
use Rattle.std.specs.Int.{w64}
use Rattle.pybuf_slice.proofs.ReadLemmas.{length_by_one, one_from_bits}
use Rattle.pybuf_slice.proofs.slices.setitem_by_slice_no_resize.Goals as goal

pub write_copies-requires : goal.write_copies-requires
write_copies-requires g c =
    let adjusted_part = c.adjust_indices-step.ensures in
    let low = c.adjust_indices-step.result.0.start in
    let high = c.adjust_indices-step.result.0.end in
    let one = adjusted_part.step ∙ one_from_bits c.args.slice.step adjusted_part.saturated.step (ap (of_z w64) (sym adjusted_part.step) ∙ c.if-step-ne1.false) in
    let many = length_by_one c.indices_of_a_span.ensures low high c.adjust_indices-step.result.1 one in
    omega (arith, many, ap length adjusted_part.picks, adjusted_part.count, c.if-count-items.false, adjusted_part.ordered, adjusted_part.within, length-take (high - low) (drop low c.args.places.now), length-drop low c.args.places.now)
