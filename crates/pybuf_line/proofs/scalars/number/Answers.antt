use Rattle.std.proofs.Common.{sym, ◌∙◌, arith}
use Rattle.pybuf_line.proofs.Digits.{too_large}
use Rattle.pybuf_line.proofs.scalars.number.Goals as goal

pub returns-in_default : goal.returns-in_default
returns-in_default c =
    sym
    (c.loop-c.invariant
    ∙ too_large c.args.bound c.loop-c.number c.loop-c.c-index c.args.text.now c.loop-c-test.true
    (sym c.is_ascii_digit.ensures.value ∙ c.if-not-is_ascii_digit.false) (omega (arith, c.in_default.ensures, c.ranges.bound.fits)))

pub returns-in_default-checked_add : goal.returns-in_default-checked_add
returns-in_default-checked_add c =
    sym
    (c.loop-c.invariant
    ∙ too_large c.args.bound c.loop-c.number c.loop-c.c-index c.args.text.now c.loop-c-test.true
    (sym c.is_ascii_digit.ensures.value ∙ c.if-not-is_ascii_digit.false)
    (omega (arith, c.in_default-checked_add.ensures, c.in-Some.ensures, c.from.ensures, c.ranges.bound.fits)))
