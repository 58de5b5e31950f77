use Rattle.std.proofs.Common.{sym, ◌∙◌}
use Rattle.pybuf_nd_lines.proofs.Empty.{turn_refused}
use Rattle.pybuf_nd_lines.proofs.selections.bytes_turned.Goals as goal

pub returns-in-Refused : goal.returns-in-Refused
returns-in-Refused c =
    c.new.ensures.items
    ∙ sym (turn_refused c.transpositions_are_column_order.ensures c.args.input.now c.args.view.now c.args.transposed c.in_ok-turned.field-0 c.in-Refused.field-0
    c.if-not-transposed.false c.in-Refused.is c.in_ok-turned.ensures.refused)
