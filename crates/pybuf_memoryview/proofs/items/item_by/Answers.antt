use Rattle.std.proofs.Common.{ap₂, sym, ◌∙◌}
use Rattle.pybuf_memoryview.specs.Items.{item_by}
use Rattle.pybuf_memoryview.proofs.SingleBytes.{reads_byte}
use Rattle.pybuf_memoryview.proofs.items.item_by.Goals as goal

pub returns-in-Some : goal.returns-in-Some
returns-in-Some c =
    c.byte_item.ensures ∙ sym (reads_byte c.in-Some.byte)
    ∙ ap₂ item_by (sym (sym c.as_slice.ensures ∙ c.in-Some.ensures.format)) (sym c.in-Some.ensures.byte)
