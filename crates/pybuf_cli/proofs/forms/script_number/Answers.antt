use Rattle.std.proofs.Common.{sym, ◌∙◌, arith}
use Rattle.pybuf_cli.proofs.ScriptNumbers.{none_unparsed, none_but, some_number, differs, same_written}
use Rattle.pybuf_cli.proofs.forms.script_number.Goals as goal

pub returns-in_default : goal.returns-in_default
returns-in_default c = none_unparsed c.args.word.now c.as_str.result.now c.as_str.ensures c.in_default.ensures.value.0

pub returns-then-number-eq0 : goal.returns-then-number-eq0
returns-then-number-eq0 c =
    none_but c.args.word.now c.as_str.result.now c.in-Ok.number c.as_str.ensures c.in-Ok.ensures.value.0.1
    (λ number. absurd (omega (arith, number.low, c.if-number-eq0.true)))

pub returns-then-number-gt-MOST_ROUNDS : goal.returns-then-number-gt-MOST_ROUNDS
returns-then-number-gt-MOST_ROUNDS c =
    none_but c.args.word.now c.as_str.result.now c.in-Ok.number c.as_str.ensures c.in-Ok.ensures.value.0.1
    (λ number. absurd (omega (arith, number.high, c.if-number-gt-MOST_ROUNDS.true)))

pub returns-then-is_word : goal.returns-then-is_word
returns-then-is_word c =
    some_number c.args.word.now c.in-Ok.number c.if-number-eq0.false c.if-number-gt-MOST_ROUNDS.false
    (same_written c.args.word.now c.as_slice.result.now c.format.result.now c.in-Ok.number c.as_slice.ensures c.format.ensures.text
    (sym c.is_word.ensures ∙ c.if-is_word.true))

pub returns : goal.returns
returns c =
    none_but c.args.word.now c.as_str.result.now c.in-Ok.number c.as_str.ensures c.in-Ok.ensures.value.0.1
    (λ number. differs c.args.word.now c.as_slice.result.now c.format.result.now c.in-Ok.number c.as_slice.ensures c.format.ensures.text
    (sym c.is_word.ensures ∙ c.if-is_word.false) number)
