use Rattle.std.proofs.Common.{w64, pos, ap, ◌∙◌, length, drop, List, ℕ}
use Rattle.std.specs.Prelude.{nat_abs}
use Rattle.std.specs.Int.Signed.{lt_z}
use Rattle.std.proofs.lemmas.Int.{to_z-of_z}
use Rattle.pybuf_strided.specs.Apart.{place_of}
use Rattle.pybuf_verbs_writes.specs.Laid.{laid}
use Rattle.pybuf_nd.proofs.LaidItems.{by_track, moved_is_laid}
use Rattle.pybuf_nd.proofs.laying.lay_row.Goals as goal

pub copy_items-requires-clause-inside : goal.copy_items-requires-clause-inside
copy_items-requires-clause-inside c =
    let same = to_z-of_z w64 c.args.stride c.ranges.stride in
    (by_track c.args.place c.args.stride c.args.count c.args.size (length c.args.bytes.now) c.unsigned_abs.result _
    (c.unsigned_abs.ensures.value ∙ ap nat_abs same) (ap (λ z. lt_z z (pos 0)) same) c.requires.inside).inside

pub returns-clause-laid : goal.returns-clause-laid
returns-clause-laid c =
    let same = to_z-of_z w64 c.args.stride c.ranges.stride in
    let track = by_track c.args.place c.args.stride c.args.count c.args.size (length c.args.bytes.now) c.unsigned_abs.result _
    (c.unsigned_abs.ensures.value ∙ ap nat_abs same) (ap (λ z. lt_z z (pos 0)) same) c.requires.inside in
    c.copy_items.ensures
    ∙ moved_is_laid c.args.bytes.now c.args.content.now (place_of _ c.args.place c.unsigned_abs.result) c.args.from c.args.size c.args.count
    ∙ ap (λ (starts : List ℕ). laid c.args.bytes.now c.args.size starts (drop c.args.from c.args.content.now)) track.starts
