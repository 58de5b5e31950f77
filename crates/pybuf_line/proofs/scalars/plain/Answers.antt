use Rattle.std.proofs.Common.{ℕ, sym, ◌∙◌, ap, subst}
use Rattle.std.specs.Prelude.{Option, Some}
use Rattle.pybuf_value.specs.Choosing.{◌>>=◌}
use Rattle.pybuf_value.specs.declared.values.Scalar.{Scalar}
use Rattle.pybuf_value.specs.declared.values.Scalar.TheVariants as scalar
use Rattle.pybuf_line.specs.Reading.{Reads}
use Rattle.pybuf_line.proofs.FirstByte.{no_plain_empty, digit_first, x_first, sign_first, h_first}
use Rattle.pybuf_line.proofs.scalars.plain.Goals as goal

pub returns-in_default : goal.returns-in_default
returns-in_default c = no_plain_empty c.args.text.now c.in_default.len_below

pub returns-then-is_ascii_digit : goal.returns-then-is_ascii_digit
returns-then-is_ascii_digit c =
    subst (λ (x : Option Scalar). Reads c.positive.result x)
    (sym (digit_first c.args.text.now c.in-len1-up.len_at_least (sym c.is_ascii_digit.ensures.value ∙ c.if-is_ascii_digit.true))) c.positive.ensures

pub returns-then-first-eq120 : goal.returns-then-first-eq120
returns-then-first-eq120 c =
    subst (λ (x : Option Scalar). Reads c.bytes.result x) (sym (x_first c.args.text.now c.in-len1-up.len_at_least c.if-first-eq120.true)) c.bytes.ensures

pub returns-then-first-eq45 : goal.returns-then-first-eq45
returns-then-first-eq45 c =
    subst (λ (x : Option Scalar). Reads c.negative.result x) (sym (sign_first c.args.text.now c.in-len1-up.len_at_least c.if-first-eq45.true))
    c.negative.ensures

pub returns-in-Some : goal.returns-in-Some
returns-in-Some c =
    h_first c.args.text.now c.in-len1-up.len_at_least c.if-first-eq104.true
    ∙ ap (λ (n : Option ℕ). n >>= (λ k. Some (scalar.Handle k))) (sym c.in-Some.ensures)

pub returns-in-None : goal.returns-in-None
returns-in-None c =
    h_first c.args.text.now c.in-len1-up.len_at_least c.if-first-eq104.true
    ∙ ap (λ (n : Option ℕ). n >>= (λ k. Some (scalar.Handle k))) (sym c.in-None.ensures)
