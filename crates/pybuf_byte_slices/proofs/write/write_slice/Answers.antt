-- Bytes that are moved along the walk of a slice are set at its indices.
use Rattle.std.proofs.Common.{◌∙◌, length}
use Rattle.pybuf_index.specs.Parts.{picks_of}
use Rattle.pybuf_byte_slices.proofs.WriteLemmas.{slice_is_walk, are_inside, moved_is_set}
use Rattle.pybuf_byte_slices.proofs.write.write_slice.Goals as goal

pub copy_items-requires-clause-inside : goal.copy_items-requires-clause-inside
copy_items-requires-clause-inside c =
    let d = c.adjust_indices-step in
    let walk = slice_is_walk c.indices_of_a_span.ensures c.args.slice (length c.args.bytes.now) d.result.0.start d.result.0.end d.result.1 d.result.2 c.first_place.result c.unsigned_abs.result
    d.ensures.saturated d.ensures.step d.ensures.count d.ensures.picks c.first_place.ensures c.unsigned_abs.ensures.value in
    are_inside d.result.0.end (length c.args.bytes.now) _ c.first_place.result c.unsigned_abs.result d.result.2 (picks_of (length c.args.bytes.now) c.args.slice) walk d.ensures.within

pub returns-clause-written : goal.returns-clause-written
returns-clause-written c =
    let d = c.adjust_indices-step in
    let walk = slice_is_walk c.indices_of_a_span.ensures c.args.slice (length c.args.bytes.now) d.result.0.start d.result.0.end d.result.1 d.result.2 c.first_place.result c.unsigned_abs.result
    d.ensures.saturated d.ensures.step d.ensures.count d.ensures.picks c.first_place.ensures c.unsigned_abs.ensures.value in
    c.copy_items.ensures
    ∙ moved_is_set c.args.bytes.now c.args.others.now d.result.0.end _ c.first_place.result c.unsigned_abs.result d.result.2 (picks_of (length c.args.bytes.now) c.args.slice) walk d.ensures.within (d.ensures.count ∙ c.requires.as_many)
