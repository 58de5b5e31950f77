use Rattle.std.proofs.Common.{subst}
use Rattle.pybuf_lemmas.proofs.Results.{if_ok_follows}
use Rattle.pybuf_desc.specs.Layouts.{Layout}
use Rattle.pybuf_desc.specs.Places.{layout_at}
use Rattle.example_picture.specs.Parts.{IsFlipped}
use Rattle.example_picture.specs.Cuts.{part_of}
use Rattle.example_picture.proofs.PartLemmas.{turn_shows}
use Rattle.example_picture.proofs.parts.turned_part.Goals as goal

pub flipped_part-requires-clause-placed : goal.flipped_part-requires-clause-placed
flipped_part-requires-clause-placed c =
    let placed = c.requires.placed in
    record { room = placed.room; room_fits = placed.room_fits; valid = c.in_ok-made.ensures.valid placed.room placed.valid }

pub returns-clause-valid : goal.returns-clause-valid
returns-clause-valid c =
    if_ok_follows c.flipped_part.result _ _ (λ made kept room valid. kept room (c.in_ok-made.ensures.valid room valid)) c.flipped_part.ensures.valid

pub returns-clause-part : goal.returns-clause-part
returns-clause-part c =
    let view = layout_at c.args.desc.now c.args.start in
    if_ok_follows c.flipped_part.result _ _
    (λ made is. turn_shows c.views_go_by_indices.ensures view (part_of (layout_at made.0 made.1)) c.requires.frame (subst (λ (l : Layout). IsFlipped (part_of l) (part_of (layout_at made.0 made.1))) c.in_ok-made.ensures.view is))
    c.flipped_part.ensures.part
