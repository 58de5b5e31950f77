use Rattle.std.proofs.Common.{sym, ◌∙◌, ap, subst}
use Rattle.std.specs.Prelude.{IfSome}
use Rattle.pybuf_struct.specs.declared.table.FormatType.{FormatType}
use Rattle.pybuf_struct.specs.Table.{is_big}
use Rattle.pybuf_equality.proofs.Numeric.{IsNumber, IsOneField, number_values}
use Rattle.pybuf_equality.proofs.signs.single_sign.Goals as goal

pub returns : goal.returns
returns c =
    let sized = c.if-size.false in
    number_values c.sign_of.result c.args.format.now c.in_ok-code.code c.args.size (sym c.codes.ensures ∙ c.in_ok-code.ensures) (sym c.repeat.ensures ∙ c.if-repeat-ne1.false) (sym c.pre_padding.ensures ∙ c.if-pre_padding-ne0.false)
    (ap is_big (sym c.endianness.ensures) ∙ sym c.is_big.ensures ∙ c.if-is_big.false) (c.size.ensures.laid_out ∙ sized) (sym c.size.ensures.total ∙ sized)
    (subst (λ (k : FormatType). IfSome c.sign_of.result (λ signed. IsNumber k signed)) c.code.ensures c.sign_of.ensures.value)
    (subst (λ (k : FormatType). IfSome c.sign_of.result (λ signed. IsOneField k)) c.code.ensures c.sign_of.ensures.field)
