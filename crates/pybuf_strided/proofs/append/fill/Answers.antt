use Rattle.std.proofs.Common.{◌∙◌}
use Rattle.pybuf_strided.specs.Apart.{place_of}
use Rattle.pybuf_strided.proofs.Copies.{all_filled, room_inside}
use Rattle.pybuf_strided.proofs.append.fill.Goals as goal

pub returns : goal.returns
returns c = c.copy_items.ensures ∙ all_filled c.args.room.now c.args.source.now (place_of c.args.from.falls c.args.from.start c.args.from.step) c.args.size c.args.count c.requires.source_inside.high c.requires.whole

pub copy_items-requires-clause-inside : goal.copy_items-requires-clause-inside
copy_items-requires-clause-inside c = record {
  low = λ k less falls. absurd (cc);
  high = room_inside c.args.size c.args.count _ c.requires.whole;
}
