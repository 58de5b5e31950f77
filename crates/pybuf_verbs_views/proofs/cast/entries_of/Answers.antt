use Rattle.std.proofs.Common.{◌≡◌, ◌<◌, ◌++◌, [], ◌∷◌, ℕ, All, sym, subst, arith, mul-pos}
use Rattle.std.proofs.lemmas.Grind.{common_steps}
use Rattle.std.proofs.lemmas.List.Elements.{All-push}
use Rattle.pybuf_verbs_views.proofs.CastEntries.{entry_next, product_next}
use Rattle.pybuf_verbs_views.proofs.cast.entries_of.Goals as goal

pub loop-part-preserved : goal.loop-part-preserved
loop-part-preserved c =
    let so_far = c.loop-part.invariant in
    let entry : ℕ = c.in_ok-entry.entry in
    let pushed : c.push.new.self ≡ c.loop-part.entries ++ entry ∷ [] = c.in_ok-push.ensures.ok in
    let counted = so_far.3 in (
      entry_next _ c.loop-part.entries c.push.new.self c.loop-part.product entry c.loop-part.part-index c.args.parts.now c.part-item.result _ c.loop-part-test.true c.part-item.is so_far.0 c.in_ok-entry.ensures.exact pushed,
      product_next c.loop-part.entries c.push.new.self c.args.size c.loop-part.product entry so_far.1 pushed,
      subst (All (λ n. 0 < n)) (sym pushed) (All-push (λ n. 0 < n) c.loop-part.entries entry so_far.2 c.in_ok-entry.ensures.some),
      grind (arith, common_steps, pushed, counted),
      mul-pos so_far.4 c.in_ok-entry.ensures.some,
      c.in_ok-entry.ensures.fits,
    )
