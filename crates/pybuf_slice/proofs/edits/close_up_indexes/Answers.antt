-- Each place is on the index list, or its element moves down behind those that stay.
use Rattle.std.proofs.Common.{◌≡◌, ◌≢◌, ◌+◌, ◌<◌, ◌≤◌, suc, ◌∷◌, length, take, drop, refl, ap, sym, ◌∙◌, arith, false}
use Rattle.pybuf_slice.specs.Facts.{has_head, has_other}
use Rattle.pybuf_slice.specs.Edits.{has}
use Rattle.pybuf_slice.proofs.EditLemmas.{has_below, rising_lower, rising_from, off_deleted, off_ended, off_starts, stays_by_swap, swap_drop, length_swap, drop_more}
use Rattle.pybuf_slice.proofs.edits.close_up_indexes.Goals as goal
use Rattle.pybuf_slice.proofs.edits.close_up_indexes.Goals.{then-place-next, else-place-next}

pub loop-place-init : goal.loop-place-init
loop-place-init g c = (
  off_starts c.args.items.now c.args.range.start c.args.range.end c.args.indexes (omega (arith, c.requires.ordered, c.requires.inside)) c.requires.within,
  refl,
  omega arith,
  refl,
  λ q low high. sym (c.next_before-next.ensures.same q high),
  c.next_before-next.ensures.rising c.args.range.start c.requires.ordered (rising_from c.args.indexes c.args.range.start c.args.range.end c.requires.rising c.requires.within),
)

pub loop-place-preserved : goal.loop-place-preserved
loop-place-preserved g c =
    let inv = c.loop-place.invariant in
    let items = c.args.items.now in
    let now = c.loop-place.items in
    let p = c.loop-place.place in
    let next = c.loop-place.next in
    let inside : p < length items = omega (arith, c.loop-place-test.true, c.requires.inside) in
    elim c.if-place-next.branch [
      | then-place-next w ↦
          let here : next ≡ p = omega (arith, w.if-place-next.true) in
          let rest = w.next_before-next-then-place-next in
          rw (w.items-is, w.kept-is, w.next-is, w.indexes-is) (
            off_deleted (take c.loop-place.kept now) items p c.args.indexes inside (inv.4 p (omega arith) c.loop-place-test.true ∙ has_head next c.loop-place.indexes p here) inv.0,
            drop_more now items p inv.1,
            omega (arith, inv.2),
            inv.3,
            λ q low high.
                let other : next ≢ q = omega (arith, here, low) in
                inv.4 q (omega (arith, low)) high ∙ has_other next c.loop-place.indexes q other ∙ sym (rest.ensures.same q high),
            rest.ensures.rising (p + 1) (omega (arith, c.loop-place-test.true)) (rising_lower c.loop-place.indexes (suc next) (p + 1) (omega (arith, here)) inv.5.1),
          )
      | else-place-next w ↦
          let further : p + 1 ≤ next = omega (arith, w.if-place-next.false, inv.5.0) in
          let off : has c.args.indexes p ≡ false = inv.4 p (omega arith) c.loop-place-test.true ∙ has_below (next ∷ c.loop-place.indexes) (p + 1) p (further, inv.5.1) (omega arith) in
          rw (w.items-is, w.kept-is, w.next-is, w.indexes-is) (
            ap (take (c.loop-place.kept + 1)) w.swap.ensures.after ∙ stays_by_swap now items c.loop-place.kept p c.args.indexes inv.2 inside inv.3 off inv.0 inv.1,
            ap (drop (p + 1)) w.swap.ensures.after ∙ swap_drop now c.loop-place.kept p inv.2 (omega (arith, inside, inv.3)) ∙ drop_more now items p inv.1,
            omega (arith, inv.2),
            ap length w.swap.ensures.after ∙ length_swap now c.loop-place.kept p ∙ inv.3,
            λ q low high. inv.4 q (omega (arith, low)) high,
            (further, inv.5.1),
          )
    ]

pub returns-clause-list : goal.returns-clause-list
returns-clause-list g c =
    let inv = c.loop-place.invariant in
    let ended : c.loop-place.place ≡ c.args.range.end = omega (arith, c.loop-place-test.false, c.loop-place.auto.place-end, c.requires.ordered) in
    let kept = inv.0 in
    let rest = inv.1 in
    off_ended c.loop-place.items c.args.items.now c.loop-place.kept c.args.range.start c.args.range.end c.args.indexes c.requires.inside c.requires.within (rw ended at kept) (rw ended at rest)
