use Rattle.std.proofs.Common.{rules, ◌≡◌, length, sym, ◌∙◌, arith}
use Rattle.pybuf_nd_lines.proofs.Small.{shape_sound}
use Rattle.pybuf_nd_lines.proofs.selections.selection_of_key.Goals as goal

pub invariant_of-result : goal.invariant_of-result
invariant_of-result c = record {
  shape = shape_sound c.as_slice.result.now c.in-Some.shape (sym c.in_ok-shape.ensures ∙ c.in-Some.is);
  one_each = grind (arith, rules);
}
