use Rattle.std.proofs.Common.{ℕ, ℤ, List, length, drop, true, false, sym, ap, ◌∙◌}
use Rattle.pybuf_desc.specs.Descriptor.{shape_of}
use Rattle.pybuf_nd.specs.Selections.{has_zero}
use Rattle.pybuf_nd.proofs.Answered.{entries_small, selection_refused, selection_extent, selection_stands, selection_valid}
use Rattle.pybuf_nd.proofs.selection.slice_all.Goals as goal

pub cut_dims-requires-clause-one_each : goal.cut_dims-requires-clause-one_each
cut_dims-requires-clause-one_each c = c.requires.one_each ∙ ap (λ (ds : List (ℕ × ℤ × ℤ)). length ds) (sym c.dim_desc.ensures)

pub cut_dims-requires-clause-fits : goal.cut_dims-requires-clause-fits
cut_dims-requires-clause-fits c = entries_small c.args.desc.now c.args.start c.dim_desc.result.now c.requires.placed c.dim_desc.ensures

pub returns-then-lacks_later_entry-clause-refused : goal.returns-then-lacks_later_entry-clause-refused
returns-then-lacks_later_entry-clause-refused c =
    selection_refused c.args.desc.now c.args.slices.now c.dim_desc.result.now c.in_ok-cut.cut true c.dim_desc.ensures c.in_ok-cut.ensures.cut
    (ap (λ (ds : List (ℕ × ℤ × ℤ)). has_zero (shape_of (drop 1 ds))) (sym c.as_slice.ensures) ∙ sym c.lacks_later_entry.ensures ∙ c.if-lacks_later_entry.true)

pub start_of_selection-next-requires-clause-saturated : goal.start_of_selection-next-requires-clause-saturated
start_of_selection-next-requires-clause-saturated c = c.in_ok-cut.ensures.saturated

pub in_dims-requires : goal.in_dims-requires
in_dims-requires c =
    selection_extent c.args.desc.now c.args.start c.args.slices.now c.dim_desc.result.now c.in_ok-cut.cut c.requires.placed c.in_ok-cut.ensures.saturated c.dim_desc.ensures c.in_ok-cut.ensures.cut
    (ap (λ (ds : List (ℕ × ℤ × ℤ)). has_zero (shape_of (drop 1 ds))) (sym c.as_slice.ensures) ∙ sym c.lacks_later_entry.ensures ∙ c.if-lacks_later_entry.false)

pub returns-clause-refused : goal.returns-clause-refused
returns-clause-refused c =
    selection_refused c.args.desc.now c.args.slices.now c.dim_desc.result.now c.in_ok-cut.cut false c.dim_desc.ensures c.in_ok-cut.ensures.cut
    (ap (λ (ds : List (ℕ × ℤ × ℤ)). has_zero (shape_of (drop 1 ds))) (sym c.as_slice.ensures) ∙ sym c.lacks_later_entry.ensures ∙ c.if-lacks_later_entry.false)

pub returns-clause-valid : goal.returns-clause-valid
returns-clause-valid c =
    selection_valid c.slices_have_spans.ensures c.args.desc.now c.args.start c.args.slices.now c.dim_desc.result.now c.in_ok-cut.cut c.start_of_selection-next.result c.in_ok-made.made c.requires.placed c.requires.one_each c.in_ok-cut.ensures.saturated c.dim_desc.ensures c.in_ok-cut.ensures.cut
    (ap (λ (ds : List (ℕ × ℤ × ℤ)). has_zero (shape_of (drop 1 ds))) (sym c.as_slice.ensures) ∙ sym c.lacks_later_entry.ensures ∙ c.if-lacks_later_entry.false) c.start_of_selection-next.ensures c.in_ok-made.ensures

pub returns-clause-stands : goal.returns-clause-stands
returns-clause-stands c =
    selection_stands c.slices_have_spans.ensures c.args.desc.now c.args.start c.args.slices.now c.dim_desc.result.now c.in_ok-cut.cut c.start_of_selection-next.result c.in_ok-made.made c.requires.placed c.requires.one_each c.in_ok-cut.ensures.saturated c.dim_desc.ensures c.in_ok-cut.ensures.cut
    c.start_of_selection-next.ensures c.in_ok-made.ensures
