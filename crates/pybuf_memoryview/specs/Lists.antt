-- All items of a view.
use Rattle.std.specs.Prelude.{ℕ, List, map}
use Rattle.pybuf_value.specs.declared.values.Item.{Item}
use Rattle.pybuf_desc.specs.Layouts.{Layout}
use Rattle.pybuf_desc.specs.Items.{bytes_at}
use Rattle.pybuf_memoryview.specs.Items.{item_by}

-- what each item is read as, in order
abbrev pub items_of_layout : List ℕ → Layout → List Item
items_of_layout bytes layout = map (λ start. item_by layout.format (bytes_at bytes layout.itemsize start)) layout.starts
