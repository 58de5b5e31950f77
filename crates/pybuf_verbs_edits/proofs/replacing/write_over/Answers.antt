-- The range that a step of 1 picks is as long as the bytes.
use Rattle.std.proofs.Common.{rules, ◌≡◌, length, pos}
use Rattle.pybuf_index.specs.Parts.{picks_of}
use Rattle.pybuf_verbs_edits.proofs.Assigning.{range_long}
use Rattle.pybuf_verbs_edits.proofs.replacing.write_over.Goals as goal

pub copy_from_slice-requires : goal.copy_from_slice-requires
copy_from_slice-requires c =
    let d = c.adjust_indices-step in
    let one : d.result.1 ≡ pos 1 = search rules in
    range_long c.args.places.now (picks_of (length c.args.places.now) c.args.slice) d.result.0.start d.result.0.end (length c.args.bytes.now) d.result.1 one d.ensures.ordered d.ensures.within d.ensures.picks c.requires.as_many
