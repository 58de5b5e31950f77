use Rattle.std.proofs.Common.{◌+◌, ◌*◌, refl, ◌∙◌}
use Rattle.pybuf_byte_slices.proofs.CloseLemmas.{next_closed, place_is}
use Rattle.pybuf_byte_slices.proofs.close.close_sized.Goals as goal

pub loop-k-preserved : goal.loop-k-preserved
loop-k-preserved g c = record {
  runs = next_closed c.args.bytes.now c.loop-k.bytes c.move_sized.new.bytes c.args.low g.row.SIZE c.loop-k.k c.args.count (c.args.low + c.loop-k.k * g.row.SIZE) (c.args.low + 1 + c.loop-k.k * (g.row.SIZE + 1))
      c.requires.inside c.loop-k-test.true refl (place_is c.args.low g.row.SIZE c.loop-k.k) c.loop-k.invariant.runs c.move_sized.ensures.bytes;
  long = c.move_sized.ensures.long ∙ c.loop-k.invariant.long;
}
