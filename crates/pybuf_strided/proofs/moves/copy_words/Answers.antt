use Rattle.std.proofs.Common.{◌∙◌, not}
use Rattle.std.specs.Prelude.{eqb}
use Rattle.pybuf_strided.specs.Apart.{place_of}
use Rattle.pybuf_strided.proofs.Copies.{next_moved, next_place}
use Rattle.pybuf_strided.proofs.moves.copy_words.Goals as goal

pub loop-k-preserved : goal.loop-k-preserved
loop-k-preserved g c = record {
  moved = next_moved c.args.bytes.now (place_of (not (eqb g.row.TO_FALLS 0)) c.args.to c.args.to_step) c.args.source.now (place_of (not (eqb g.row.FROM_FALLS 0)) c.args.from c.args.from_step) g.row.SIZE c.loop-k.k c.loop-k.bytes c.copy_word.new.bytes c.loop-k.invariant.moved
      (c.copy_word.ensures.copied ∙ next_place c.loop-k.bytes c.args.source.now g.row.SIZE _ _ _ _ c.place-at.ensures c.place-there.ensures);
  long = c.copy_word.ensures.long ∙ c.loop-k.invariant.long;
}
