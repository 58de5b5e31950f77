use Rattle.std.proofs.Common.{◌+◌, ◌*◌, refl, ◌∙◌}
use Rattle.pybuf_byte_slices.proofs.CloseLemmas.{next_closed, place_is}
use Rattle.pybuf_byte_slices.proofs.close.close_unsized.Goals as goal

pub loop-k-preserved : goal.loop-k-preserved
loop-k-preserved c = record {
  runs = next_closed c.args.bytes.now c.loop-k.bytes c.move_unsized.new.bytes c.args.low c.args.size c.loop-k.k c.args.count (c.args.low + c.loop-k.k * c.args.size) (c.args.low + 1 + c.loop-k.k * (c.args.size + 1))
      c.requires.inside c.loop-k-test.true refl (place_is c.args.low c.args.size c.loop-k.k) c.loop-k.invariant.runs c.move_unsized.ensures.bytes;
  long = c.move_unsized.ensures.long ∙ c.loop-k.invariant.long;
}
