use Rattle.std.proofs.Common.{rules, ◌≡◌, ◌≤◌, [], ◌∷◌, ◌++◌, List, ap₂, ◌∙◌, sym, arith}
use Rattle.pybuf_share.specs.Sessions.{Asker}
use Rattle.pybuf_share.proofs.Faults.{all_made}
use Rattle.pybuf_share.proofs.Sessions.{sessions_more}
use Rattle.pybuf_share.proofs.logged.sessions_by.Goals as goal

pub loop-number-preserved : goal.loop-number-preserved
loop-number-preserved g c =
    let i = c.loop-number.invariant in
    let parts = c.split_off-part.ensures.parts_left in
    let amount = c.split_off-part.ensures.amount_left in
    let test = c.loop-number-test.true in (
      c.in_ok-push.ensures.items ∙ ap₂ (λ (l : List Asker) (s : Asker). l ++ s ∷ []) i.0 c.new.ensures ∙ sym (sessions_more c.loop-number.number),
      omega (arith, parts, i.1),
      omega (arith, amount, i.2),
      omega (arith, test),
    )

pub returns-clause-all : goal.returns-clause-all
returns-clause-all g c =
    let i = c.loop-number.invariant in
    let past : c.args.sessions ≤ c.loop-number.number = search rules in
    let low = i.3 in
    let each = c.requires.each in
    let many : c.loop-number.number ≡ c.args.share.parts = omega (arith, past, low, each) in
    all_made c.loop-number.made.items c.loop-number.number c.args.share.parts i.0 many
