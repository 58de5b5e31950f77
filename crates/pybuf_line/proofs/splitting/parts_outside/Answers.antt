use Rattle.std.specs.Prelude.{false}
use Rattle.std.proofs.Common.{[], ◌+◌, arith, map, ap, ◌∙◌, sym}
use Rattle.pybuf_lemmas.proofs.Numbers.{other_than_quote}
use Rattle.pybuf_line.proofs.Commas.{nothing_begun, at_quote, at_other, at_comma, same_cuts}
use Rattle.pybuf_line.proofs.Cuts.{onto_parts, one_text_more}
use Rattle.pybuf_line.specs.Parts.{parts_from}
use Rattle.pybuf_line.proofs.splitting.parts_outside.Goals as goal
use Rattle.pybuf_line.proofs.splitting.parts_outside.Goals.{then-b-eq39, else-b-eq39+then-ends_part+in_ok-push, else-b-eq39+else-ends_part}

pub loop-i-init : goal.loop-i-init
loop-i-init c = record {
  parts = nothing_begun c.args.text.now ∙ ap (λ parts. onto_parts (map (λ part. part.now) parts) [] (parts_from false c.args.text.now)) (sym c.new-parts.ensures.items);
  within = omega arith;
}

pub loop-i-preserved : goal.loop-i-preserved
loop-i-preserved c =
    elim c.if-b-eq39.branch [
      | then-b-eq39 w ↦ record {
        parts = same_cuts _ _ _ c.args.text.now (c.loop-i.i + 1) _ _ _ _ (ap (λ v. map (λ part. part.now) v.items) w.parts-is) w.start-is w.quoted-is
            (at_quote _ _ c.args.text.now c.loop-i.start c.loop-i.i c.loop-i.quoted c.loop-i.invariant.within c.loop-i-test.true
            c.loop-i.invariant.parts w.if-b-eq39.true);
        within = omega (arith, w.start-is);
      }
      | else-b-eq39+then-ends_part+in_ok-push w ↦ record {
        parts = same_cuts _ _ _ c.args.text.now (c.loop-i.i + 1) _ _ _ _
            (ap (λ v. map (λ part. part.now) v.items) w.parts-is ∙ one_text_more c.loop-i.parts.items w.push.new.self.items _ w.in_ok-push.ensures.items)
            w.start-is w.quoted-is
            (at_comma _ _ c.args.text.now c.loop-i.start c.loop-i.i c.loop-i.quoted c.loop-i-test.true
            c.loop-i.invariant.parts (other_than_quote _ w.if-b-eq39.false) (sym w.ends_part.ensures ∙ w.if-ends_part.true));
        within = omega (arith, w.start-is);
      }
      | else-b-eq39+else-ends_part w ↦ record {
        parts = same_cuts _ _ _ c.args.text.now (c.loop-i.i + 1) _ _ _ _ (ap (λ v. map (λ part. part.now) v.items) w.parts-is) w.start-is w.quoted-is
            (at_other _ _ c.args.text.now c.loop-i.start c.loop-i.i c.loop-i.quoted c.loop-i.invariant.within c.loop-i-test.true
            c.loop-i.invariant.parts (other_than_quote _ w.if-b-eq39.false) (sym w.ends_part.ensures ∙ w.if-ends_part.false));
        within = omega (arith, w.start-is);
      }
    ]
