use Rattle.std.proofs.Common.{◌+◌, ℕ, refl, sym, ap, ◌∙◌}
use Rattle.pybuf_struct.proofs.Spelling.{spells_nothing, spells_digit, spells_code, no_count, no_code, no_room, no_end, spells_all}
use Rattle.pybuf_struct.proofs.parse.spell.Goals as goal
use Rattle.pybuf_struct.proofs.parse.spell.Goals.{then-is_ascii_digit+in-Some, else-is_ascii_digit+in-Some-allowed_code+in-Some-place+in_ok-push}

pub loop-b-init : goal.loop-b-init
loop-b-init c = rw c.in_ok-codes.ensures.items (spells_nothing _ _)

pub returns-in-None : goal.returns-in-None
returns-in-None c = rw (no_count _ _ _ _ _ _ _ c.loop-b.invariant c.loop-b-test.true (sym c.is_ascii_digit.ensures.value ∙ c.if-is_ascii_digit.true) c.in-None.ensures.past) refl

pub returns-in_default : goal.returns-in_default
returns-in_default c = rw (no_code _ _ _ _ _ _ _ c.loop-b.invariant c.loop-b-test.true (sym c.is_ascii_digit.ensures.value ∙ c.if-is_ascii_digit.false) (sym c.in_default.ensures)) refl

pub returns-in_default-place : goal.returns-in_default-place
returns-in_default-place c = rw (no_room _ _ _ _ _ _ _ c.in-Some-allowed_code.code c.unwrap_or.result c.loop-b.invariant c.loop-b-test.true (sym c.is_ascii_digit.ensures.value ∙ c.if-is_ascii_digit.false) (sym c.in-Some-allowed_code.ensures) c.unwrap_or.ensures c.in_default-place.ensures.past) refl

pub loop-b-preserved : goal.loop-b-preserved
loop-b-preserved c = elim c.if-is_ascii_digit.branch [
  | then-is_ascii_digit+in-Some w ↦ rw (w.codes-is, w.offset-is, w.arg_count-is, w.count-is) (spells_digit _ _ _ _ _ _ _ _ c.loop-b.invariant c.loop-b-test.true (sym c.is_ascii_digit.ensures.value ∙ w.if-is_ascii_digit.true) w.in-Some.ensures.fits)
  | else-is_ascii_digit+in-Some-allowed_code+in-Some-place+in_ok-push w ↦ rw (w.codes-is, w.offset-is, w.arg_count-is, w.count-is, w.in_ok-push.ensures.items) (spells_code _ _ _ _ _ _ _ w.in-Some-allowed_code.code w.unwrap_or.result _ _ _ c.loop-b.invariant c.loop-b-test.true (sym c.is_ascii_digit.ensures.value ∙ w.if-is_ascii_digit.false) (sym w.in-Some-allowed_code.ensures) w.unwrap_or.ensures w.in-Some-place.ensures.code w.in-Some-place.ensures.fits w.in-Some-place.ensures.bound (ap (λ (n : ℕ). c.loop-b.arg_count + n) w.arg_count-arg_count.ensures))
]

pub returns-then-is_some : goal.returns-then-is_some
returns-then-is_some c = rw (no_end _ _ _ _ _ _ _ c.loop-b.invariant c.loop-b-test.false (sym c.is_some.ensures ∙ c.if-is_some.true)) refl

pub returns : goal.returns
returns c = rw (spells_all _ _ _ _ _ _ _ c.loop-b.invariant c.loop-b-test.false (sym c.is_some.ensures ∙ c.if-is_some.false), c.new.ensures) refl
