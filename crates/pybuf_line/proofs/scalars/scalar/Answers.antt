use Rattle.std.proofs.Common.{sym, subst}
use Rattle.std.specs.Prelude.{Option}
use Rattle.pybuf_value.specs.declared.values.Scalar.{Scalar}
use Rattle.pybuf_line.specs.Reading.{Reads}
use Rattle.pybuf_line.proofs.FirstByte.{no_scalar_empty, quote_first, no_quote_first}
use Rattle.pybuf_line.proofs.scalars.scalar.Goals as goal

pub returns-in_default : goal.returns-in_default
returns-in_default c = no_scalar_empty c.args.spelled.now c.in_default.len_below

pub returns-then-first-eq39 : goal.returns-then-first-eq39
returns-then-first-eq39 c =
    subst (λ (x : Option Scalar). Reads c.text.result x) (sym (quote_first c.args.spelled.now c.in-len1-up.len_at_least c.if-first-eq39.true)) c.text.ensures

pub returns : goal.returns
returns c =
    subst (λ (x : Option Scalar). Reads c.plain.result x) (sym (no_quote_first c.args.spelled.now c.in-len1-up.len_at_least c.if-first-eq39.false))
    c.plain.ensures
