use Rattle.pybuf_table.proofs.RowFormatLemmas.{one_more}
use Rattle.pybuf_table.proofs.row_format.places_of.Goals as goal

pub loop-number-preserved : goal.loop-number-preserved
loop-number-preserved c =
    rw c.in_ok-push.ensures.items (one_more c.args.format.now c.loop-number.number c.loop-number.places.items c.in-Some.place c.loop-number.invariant c.in-Some.ensures.value c.in-Some.ensures.inside c.in-Some.ensures.long)
