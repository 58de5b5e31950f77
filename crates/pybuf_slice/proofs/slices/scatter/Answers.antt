-- The next element is put at the next index.
use Rattle.std.proofs.Common.{◌∷◌, List, ℕ, length, ap, sym, ◌∙◌, arith, length-set}
use Rattle.std.specs.Vec.Iter.{into_iter_items}
use Rattle.pybuf_slice.specs.Edits.{set_at}
use Rattle.pybuf_slice.proofs.ReadLemmas.{rest_inside}
use Rattle.pybuf_slice.proofs.slices.scatter.Goals as goal

pub loop-index-preserved-in-Some-next : goal.loop-index-preserved-in-Some-next
loop-index-preserved-in-Some-next g c =
    let inv = c.loop-index.invariant in
    let places = c.loop-index.places in
    let first = c.in-Some.ensures.steps in
    let item = c.in-Some-next.ensures.cases in
    let long = length-set places c.in-Some.index c.in-Some-next.item in (
      sym (ap (λ (us : List ℕ). set_at places us (into_iter_items c.loop-index.rest)) first
          ∙ ap (λ (xs : List g.row.T.Denot). set_at places (c.in-Some.index ∷ c.next.new.self) xs) item.0)
          ∙ inv.0,
      omega (arith, inv.1, ap length first, ap length item.0),
      omega (arith, inv.2, item.1, ap length item.0),
      rw long (rest_inside (length places) c.loop-index.indexes c.next.new.self c.in-Some.index first inv.3),
    )
