use Rattle.std.proofs.Common.{◌≡◌, [], ◌∷◌, ◌++◌, List, ℕ, ap, ◌∙◌, arith, true≢false, sym}
use Rattle.pybuf_share.specs.declared.entries.Receipt.{Receipt}
use Rattle.pybuf_share.specs.Sessions.{view_given, iterator_given}
use Rattle.pybuf_share.proofs.Sessions.{views_kept, iterators_kept, one_more}
use Rattle.pybuf_share.proofs.session.Session.add_receipt.Goals as goal

pub invariant_of-self-2 : goal.invariant_of-self-2
invariant_of-self-2 g c =
    let inside = c.self.inside in
    let r = c.args.receipt in
    let more : c.receive.new.receipts.items ≡ inside.receipts.items ++ r ∷ [] = c.receive.ensures.receipts ∙ ap (λ (rs : List Receipt). rs ++ r ∷ []) c.in_ok-reserve.ensures.items in
    let views : c.receive.new.views.items ≡ inside.views.items ++ view_given r.entry.reply = c.receive.ensures.views ∙ ap (λ (ks : List ℕ). ks ++ view_given r.entry.reply) c.in_ok-reserve-2.ensures.items in
    let iterators : c.receive.new.iterators.items ≡ inside.iterators.items ++ iterator_given r.entry.reply =
    c.receive.ensures.iterators ∙ ap (λ (ks : List ℕ). ks ++ iterator_given r.entry.reply) c.in_ok-reserve-3.ensures.items in
    let longer = one_more inside.receipts.items c.receive.new.receipts.items r more in
    record {
      views = views_kept inside.receipts.items c.receive.new.receipts.items r inside.views.items c.receive.new.views.items more views c.self.invariant.views;
      iterators = iterators_kept inside.receipts.items c.receive.new.receipts.items r inside.iterators.items c.receive.new.iterators.items more iterators c.self.invariant.iterators;
      has_part = c.self.invariant.has_part;
      bounded = let before = c.self.invariant.bounded in omega (arith, longer, before);
      counted = λ is. absurd (true≢false (sym is));
      own = λ is. absurd (true≢false (sym is));
    }
