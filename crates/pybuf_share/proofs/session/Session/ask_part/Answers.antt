use Rattle.std.proofs.Common.{◌≡◌, [], ◌∷◌, ◌++◌, List, ℕ, ap, ◌∙◌, arith}
use Rattle.std.proofs.lemmas.List.Elements.{All-push, All-same}
use Rattle.pybuf_share.specs.declared.entries.Receipt.{Receipt}
use Rattle.pybuf_share.specs.Sessions.{view_given, iterator_given}
use Rattle.pybuf_share.proofs.Sessions.{views_kept, iterators_kept, one_more}
use Rattle.pybuf_share.proofs.session.Session.ask_part.Goals as goal

pub invariant_of-self-2 : goal.invariant_of-self-2
invariant_of-self-2 g c =
    let inside = c.self.inside in
    let r = c.in_ok-receipt.receipt in
    let more : c.receive.new.receipts.items ≡ inside.receipts.items ++ r ∷ [] = c.receive.ensures.receipts ∙ ap (λ (rs : List Receipt). rs ++ r ∷ []) c.in_ok-reserve.ensures.items in
    let views : c.receive.new.views.items ≡ inside.views.items ++ view_given r.entry.reply = c.receive.ensures.views ∙ ap (λ (ks : List ℕ). ks ++ view_given r.entry.reply) c.in_ok-reserve-2.ensures.items in
    let iterators : c.receive.new.iterators.items ≡ inside.iterators.items ++ iterator_given r.entry.reply =
    c.receive.ensures.iterators ∙ ap (λ (ks : List ℕ). ks ++ iterator_given r.entry.reply) c.in_ok-reserve-3.ensures.items in
    let longer = one_more inside.receipts.items c.receive.new.receipts.items r more in
    let amount = c.in_ok-receipt.ensures.amount in
    record {
      views = views_kept inside.receipts.items c.receive.new.receipts.items r inside.views.items c.receive.new.views.items more views c.self.invariant.views;
      iterators = iterators_kept inside.receipts.items c.receive.new.receipts.items r inside.iterators.items c.receive.new.iterators.items more iterators c.self.invariant.iterators;
      has_part = let parts = c.note_kept.ensures.parts in let before = c.self.invariant.has_part in omega (arith, parts, before);
      bounded = let before = c.self.invariant.bounded in omega (arith, longer, before, amount);
      counted = λ is. let before = c.self.invariant.counted is in omega (arith, longer, before, amount);
      own =
          λ is.
          All-same (λ (x : Receipt). x.entry.session ≡ inside.number) c.receive.new.receipts.items (inside.receipts.items ++ r ∷ []) more
          (All-push (λ (x : Receipt). x.entry.session ≡ inside.number) inside.receipts.items r (c.self.invariant.own is) (ap (λ (x : Receipt). x.entry.session) c.in_ok-receipt.ensures.receipt));
    }
