use Rattle.std.proofs.Common.{sym, ◌∙◌}
use Rattle.pybuf_nd_lines.proofs.Empty.{nothing_of_selection}
use Rattle.pybuf_nd_lines.proofs.selections.Selection.bytes_of.Goals as goal

pub returns : goal.returns
returns c =
    c.new.ensures.items
    ∙ sym (nothing_of_selection c.transpositions_are_column_order.ensures c.args.self.now c.args.input.now c.in_ok-whole.whole c.self.inside.shape c.as_slice.result.now
    c.self.inside.slices c.as_slice-2.result.now c.self.inside.transposed c.in_ok-view.field-0 c.in-Refused.field-0 (sym c.self.view_is) c.in_ok-whole.ensures.view
    c.as_slice.ensures c.as_slice-2.ensures c.in-Refused.is c.in_ok-view.ensures.refused)
