-- The span that the code finds is the slice's, and its indices are those of the slice.
use Rattle.std.specs.Int.{w64}
use Rattle.std.proofs.lemmas.Int.{to_z-of_z}
use Rattle.pybuf_index.proofs.SpanLemmas.{picks_of_span, count_of_span}
use Rattle.pybuf_index.proofs.saturated.SaturatedSlice.adjust_indices.Goals as goal

pub returns-clause-saturated : goal.returns-clause-saturated
returns-clause-saturated c = rw (← c.self.view_is) c.self.invariant

pub returns-clause-count : goal.returns-clause-count
returns-clause-count c =
    rw (← c.self.view_is)
    (count_of_span c.args.len c.self.inside.start c.self.inside.stop c.self.inside.step _
    c.first_place-low.result c.limit_place.result c.max-high.result c.unsigned_abs.result c.count_between-count.result
    c.self.invariant.moves (to_z-of_z w64 c.self.inside.step c.self.invariant.step)
    c.first_place-low.ensures.place c.limit_place.ensures.place c.max-high.ensures
    c.unsigned_abs.ensures.value c.count_between-count.ensures.count)

pub returns-clause-picks : goal.returns-clause-picks
returns-clause-picks c =
    rw (← c.self.view_is)
    (picks_of_span c.args.len c.self.inside.start c.self.inside.stop c.self.inside.step _
    c.first_place-low.result c.limit_place.result c.max-high.result
    c.self.invariant.moves (to_z-of_z w64 c.self.inside.step c.self.invariant.step)
    c.first_place-low.ensures.place c.limit_place.ensures.place c.max-high.ensures)
