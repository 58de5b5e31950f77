use Rattle.std.proofs.Common.{◌≡◌, rules, ap, sym, ◌∙◌, subst, length, List, ℕ, true}
use Rattle.pybuf_desc.specs.Layouts.{Layout, LiesInside}
use Rattle.pybuf_desc.specs.Items.{bytes_of_items}
use Rattle.pybuf_desc.specs.ColumnOrder.{columns_of}
use Rattle.pybuf_memoryview.specs.Orders.{has_zero_entry}
use Rattle.pybuf_memoryview.proofs.Dimensions.{zero_product}
use Rattle.pybuf_memoryview.proofs.content.column_content_of.Goals as goal

pub returns-then-has_zero : goal.returns-then-has_zero
returns-then-has_zero c =
    let view = c.args.layout.now in
    let zeros : has_zero_entry view.shape ≡ true = search rules in
    c.new.ensures.items ∙ sym (ap (bytes_of_items c.args.bytes.now view.itemsize) (c.no_items_are_no_columns.ensures view (zero_product view.shape zeros)))

pub content_of-requires : goal.content_of-requires
content_of-requires c =
    let view = c.args.layout.now in
    let made : c.in_ok-columns.columns ≡ columns_of view = search rules in
    subst (LiesInside (length c.args.bytes.now)) (sym made) (c.columns_stay_inside.ensures (length c.args.bytes.now) view c.placed.ensures.counted c.requires)
