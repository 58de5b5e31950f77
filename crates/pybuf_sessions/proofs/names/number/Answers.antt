use Rattle.std.proofs.Common.{sym, ◌∙◌}
use Rattle.pybuf_sessions.proofs.Numerals.{unparsed, numeral_is_utf8}
use Rattle.pybuf_sessions.proofs.names.number.Goals as goal

pub returns-in-Err-parse : goal.returns-in-Err-parse
returns-in-Err-parse c =
    unparsed c.args.text.now _ c.in-Ok.ensures.cases.0 (sym c.is_numeral.ensures ∙ c.if-not-is_numeral.false) c.in-Err-parse.ensures.value.0

pub returns-in-Err : goal.returns-in-Err
returns-in-Err c = absurd (c.in-Err.ensures.cases.0 (numeral_is_utf8 c.args.text.now (sym c.is_numeral.ensures ∙ c.if-not-is_numeral.false)))
