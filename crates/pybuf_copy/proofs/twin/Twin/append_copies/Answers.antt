-- One more copy is added.
use Rattle.std.proofs.Common.{◌∷◌, [], ◌++◌, List, ap, ◌∙◌, append_assoc, arith}
use Rattle.std.proofs.lemmas.List.Elements.{all_zip_more}
use Rattle.pybuf_copy.proofs.twin.Twin.append_copies.Goals as goal

pub loop-item-preserved : goal.loop-item-preserved
loop-item-preserved g c =
    let copies = c.loop-item.invariant.0 in (
      (
        copies.0 ++ c.in-Ok.twin ∷ [],
        c.push_reserved.ensures.items ∙ ap (λ (xs : List g.row.Self.Denot). xs ++ c.in-Ok.twin ∷ []) copies.1 ∙ append_assoc c.args.list.now.items copies.0 (c.in-Ok.twin ∷ []),
        all_zip_more g.Self.Twin.same c.args.items.now copies.0 c.loop-item.item-index c.item-item.result c.in-Ok.twin c.loop-item-test.true c.item-item.is copies.2 c.in-Ok.ensures,
      ),
      omega (arith, c.push_reserved.ensures.len, c.loop-item.invariant.1),
      omega (arith, c.push_reserved.ensures.capacity, c.loop-item.invariant.2),
    )
