use Rattle.std.proofs.Common.{sym, ◌∙◌, arith}
use Rattle.pybuf_struct.proofs.Packs.{checks_nothing, checks_more, checks_stopped, is_accepted, checks_all}
use Rattle.pybuf_struct.proofs.pack.check_all.Goals as goal

pub loop-value-init : goal.loop-value-init
loop-value-init g c = record {
  checks = checks_nothing _ _ _ _ _ c.requires.count c.new-cursor.ensures.fields;
  bound = omega (arith, c.requires.bound, c.new-cursor.ensures.end);
}

pub loop-value-preserved : goal.loop-value-preserved
loop-value-preserved g c = record {
  checks = checks_more _ _ _ _ _ _ _ _ _ _ c.loop-value.invariant.checks c.loop-value-test.true c.value-item.is c.in-Some.ensures.some (sym c.check_field-answer.ensures ∙ is_accepted _ (sym c.is_err.ensures.value ∙ c.if-is_err.false));
  bound = omega (arith, c.loop-value.invariant.bound, c.in-Some.ensures.end);
}

pub returns-then-is_err : goal.returns-then-is_err
returns-then-is_err g c = checks_stopped _ _ _ _ _ _ _ _ _ _ _ c.loop-value.invariant.checks c.loop-value-test.true c.value-item.is c.in-Some.ensures.some c.check_field-answer.ensures (sym c.is_err.ensures.value ∙ c.if-is_err.true)

pub returns : goal.returns
returns g c = sym (checks_all _ _ _ _ _ _ _ c.loop-value.invariant.checks c.loop-value-test.false)
