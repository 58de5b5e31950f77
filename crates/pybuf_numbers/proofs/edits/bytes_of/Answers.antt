use Rattle.pybuf_numbers.proofs.Again.{bytes_more}
use Rattle.std.proofs.Common.{pos}
use Rattle.pybuf_numbers.proofs.edits.bytes_of.Goals as goal

pub loop-number-preserved : goal.loop-number-preserved
loop-number-preserved c =
    bytes_more c.args.code c.args.numbers.now c.loop-number.bytes.items _ c.word_of-word.result c.loop-number.number-index _ (pos 0) c.loop-number.invariant c.loop-number-test.true c.requires c.size-in-loop-number.ensures
    c.word_of-word.ensures c.in_ok-extend_from_slice.ensures.items
