-- How many ranges the walk over a view's items has. A block of items that lie one after the other counts as one
-- range.
use Rattle.std.specs.Prelude.{ℕ, ◌-◌, ◌==◌, List, length, take, if◌then◌else◌}
use Rattle.pybuf_desc.specs.Layouts.{Layout, product}
use Rattle.pybuf_desc.specs.Tails.{tail_of_layout}

-- the entries of the shape before the tail
abbrev pub shape_before_tail : Layout → List ℕ
shape_before_tail layout = take (length layout.shape - tail_of_layout layout) layout.shape

-- no range if there are no items, and otherwise one for each index of the dimensions before the tail
abbrev pub range_count : Layout → ℕ
range_count layout = if product layout.shape == 0 then 0 else product (shape_before_tail layout)
