use Rattle.std.proofs.Common.{◌++◌, ◌∷◌, [], ◌∙◌, ap, arith}
use Rattle.pybuf_sessions.specs.Scripts.{added}
use Rattle.pybuf_sessions.proofs.Growing.{empty_more}
use Rattle.pybuf_sessions.proofs.scripts.fill.Goals as goal

pub loop-alloc-preserved : goal.loop-alloc-preserved
loop-alloc-preserved c = λ k.
    ap (added c.args.session k) c.in_ok-push.ensures.items
    ∙ (ap (λ x. added c.args.session k (c.loop-alloc.scripts.items ++ x ∷ [])) c.new.ensures
    ∙ (empty_more c.loop-alloc.scripts.items c.args.session k (omega (arith, c.len.ensures, c.loop-alloc-test.true, c.loop-alloc.scripts.ok)) ∙ c.loop-alloc.invariant k))
