use Rattle.std.proofs.Common.{[], ◌+◌, ◌∙◌, ap, sym, arith}
use Rattle.pybuf_line.specs.Words.{words}
use Rattle.pybuf_line.proofs.Blanks.{nothing_begun, at_blank, at_other, same_words}
use Rattle.pybuf_line.proofs.Cuts.{onto_parts, texts, one_text_more}
use Rattle.pybuf_line.proofs.splitting.fill_words.Goals as goal
use Rattle.pybuf_line.proofs.splitting.fill_words.Goals.{then-b-eq32+in_ok-push, else-b-eq32}

pub loop-i-init : goal.loop-i-init
loop-i-init c = record {
  words = nothing_begun c.args.line.now ∙ ap (λ found. onto_parts (texts found) [] (words c.args.line.now)) (sym c.clear.ensures.items);
  within = omega arith;
}

pub loop-i-preserved : goal.loop-i-preserved
loop-i-preserved c =
    elim c.if-b-eq32.branch [
      | then-b-eq32+in_ok-push w ↦ record {
        words = same_words _ _ _ c.args.line.now (c.loop-i.i + 1) _ _
            (ap (λ v. texts v.items) w.found-is ∙ one_text_more c.loop-i.found.items w.push.new.self.items _ w.in_ok-push.ensures.items) w.start-is
            (at_blank _ _ c.args.line.now c.loop-i.start c.loop-i.i c.loop-i-test.true c.loop-i.invariant.words w.if-b-eq32.true);
        within = omega (arith, w.start-is);
      }
      | else-b-eq32 w ↦ record {
        words = same_words _ _ _ c.args.line.now (c.loop-i.i + 1) _ _ (ap (λ v. texts v.items) w.found-is) w.start-is
            (at_other _ _ c.args.line.now c.loop-i.start c.loop-i.i c.loop-i.invariant.within c.loop-i-test.true c.loop-i.invariant.words w.if-b-eq32.false);
        within = omega (arith, w.start-is);
      }
    ]
