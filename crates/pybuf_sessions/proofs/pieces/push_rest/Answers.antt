use Rattle.std.proofs.Common.{◌+◌, ◌∙◌, not, refl, sym, ap, arith}
use Rattle.pybuf_lemmas.proofs.Numbers.{other_than_quote}
use Rattle.pybuf_sessions.proofs.Putting.{left_same, quote_left, other_left, mark_left, same_put, piece_put, byte_put}
use Rattle.pybuf_sessions.proofs.pieces.push_rest.Goals as goal
use Rattle.pybuf_sessions.proofs.pieces.push_rest.Goals.{then-b-eq39, else-b-eq39+then-ends_piece+in_ok-push_piece+in_ok-push, else-b-eq39+else-ends_piece}

pub loop-i-preserved : goal.loop-i-preserved
loop-i-preserved c =
    let rest = c.args.rest.now in
    let start = c.loop-i.start in
    let i = c.loop-i.i in
    let quoted = c.loop-i.quoted in
    elim c.if-b-eq39.branch [
      | then-b-eq39 w ↦ record {
        put = same_put _ _ _ _ _ _ _ _ _ (ap (λ v. v.items) w.text-is) w.loans-is
            (quote_left rest start i quoted c.loop-i.invariant.within c.loop-i-test.true w.if-b-eq39.true
            ∙ left_same rest start _ (i + 1) (not quoted) _ w.start-is w.quoted-is)
            c.loop-i.invariant.put;
        within = omega (arith, w.start-is);
      }
      | else-b-eq39+then-ends_piece+in_ok-push_piece+in_ok-push w ↦ record {
        put =
            let first = same_put _ _ _ _ _ _ _ _ _ refl refl
            (mark_left rest start i quoted c.loop-i.invariant.within c.loop-i-test.true (other_than_quote _ w.if-b-eq39.false)
            (sym w.ends_piece.ensures ∙ w.if-ends_piece.true))
            c.loop-i.invariant.put in
            let second = piece_put _ _ _ _ _ _ _ _ _ first w.in_ok-push_piece.ensures in
            let third = byte_put _ _ _ _ _ _ _ _ second w.in_ok-push.ensures.items in
            same_put _ _ _ _ _ _ _ _ _ (ap (λ v. v.items) w.text-is) w.loans-is (left_same rest (i + 1) _ (i + 1) quoted _ w.start-is w.quoted-is) third;
        within = omega (arith, w.start-is);
      }
      | else-b-eq39+else-ends_piece w ↦ record {
        put = same_put _ _ _ _ _ _ _ _ _ (ap (λ v. v.items) w.text-is) w.loans-is
            (other_left rest start i quoted c.loop-i.invariant.within c.loop-i-test.true (other_than_quote _ w.if-b-eq39.false)
            (sym w.ends_piece.ensures ∙ w.if-ends_piece.false)
            ∙ left_same rest start _ (i + 1) quoted _ w.start-is w.quoted-is)
            c.loop-i.invariant.put;
        within = omega (arith, w.start-is);
      }
    ]
