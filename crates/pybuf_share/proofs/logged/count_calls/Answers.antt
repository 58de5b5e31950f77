use Rattle.std.proofs.Common.{◌≡◌, [], ◌∷◌, ◌++◌, ap, ◌∙◌, arith}
use Rattle.std.proofs.lemmas.List.Elements.{All-push, All-same}
use Rattle.std.proofs.lemmas.List.Sums.{sum_by_push}
use Rattle.pybuf_share.specs.Sessions.{Asker}
use Rattle.pybuf_share.specs.Finishing.{parts_of, calls_of, IsOwn}
use Rattle.pybuf_share.proofs.logged.count_calls.Goals as goal

pub loop-session-preserved : goal.loop-session-preserved
loop-session-preserved g c =
    let rest = c.pop.new.self.items in
    let s = c.in-Some.session in
    let i = c.loop-session.invariant in
    let items : c.loop-session.left.items ≡ rest ++ s ∷ [] = c.in-Some.ensures.items in
    let parts = ap parts_of items ∙ sum_by_push (λ (t : Asker). t.parts) rest s in
    let calls = ap calls_of items ∙ sum_by_push (λ (t : Asker). t.calls) rest s in
    let merged = c.merge.ensures.parts in
    let counted = c.merge.ensures.amount in
    let share = c.into_share.ensures.parts in
    let amount = c.into_share.ensures.amount in
    let whole = i.0 in
    let all = i.1 in (
      omega (arith, parts, merged, share, whole),
      omega (arith, calls, counted, amount, all),
      i.2,
      λ own. i.3 (All-same IsOwn c.loop-session.left.items (rest ++ s ∷ []) items (All-push IsOwn rest s own c.into_share.ensures.own)),
    )
