-- The element at the next index follows those before it.
use Rattle.std.proofs.Common.{[], ◌∷◌, ◌++◌, List, length, refl, subst, sym}
use Rattle.std.specs.List.{AllZip}
use Rattle.std.proofs.lemmas.List.Elements.{AllZip-push}
use Rattle.pybuf_slice.specs.Reads.{elements_at}
use Rattle.pybuf_slice.proofs.ReadLemmas.{gather_step, first_inside, rest_inside}
use Rattle.pybuf_slice.proofs.slices.gather.Goals as goal

pub loop-index-init : goal.loop-index-init
loop-index-init g c =
    (([], refl, subst (λ (ys : List g.row.T.Denot). AllZip g.T.Twin.same [] ys) (sym c.in_ok-list.ensures.items) tt), c.requires)

pub loop-index-preserved : goal.loop-index-preserved
loop-index-preserved g c =
    let R = g.T.Twin.same in
    let before = c.loop-index.invariant.0 in
    let source = c.index-items-index.result in
    let inside = first_inside (length c.args.items.now) c.loop-index.indexes c.next.new.self c.in-Some.index c.in-Some.ensures.steps c.loop-index.invariant.1 in (
      (
        before.0 ++ source ∷ [],
        gather_step c.args.items.now before.0 (before.0 ++ source ∷ []) (elements_at c.args.items.now c.args.indexes)
            c.loop-index.indexes c.next.new.self c.in-Some.index source
            before.1 c.in-Some.ensures.steps inside c.index-items-index.is refl,
        subst (λ (ys : List g.row.T.Denot). AllZip R (before.0 ++ source ∷ []) ys) (sym c.in_ok-push.ensures.items)
            (AllZip-push R before.0 c.loop-index.list.items source c.in_ok-copy.field-0 before.2 c.in_ok-copy.ensures),
      ),
      rest_inside (length c.args.items.now) c.loop-index.indexes c.next.new.self c.in-Some.index c.in-Some.ensures.steps c.loop-index.invariant.1,
    )
