-- The bytes of items.
use Rattle.std.specs.Prelude.{ℕ, List, take, drop}
use Rattle.std.specs.List.{flat_map}
use Rattle.pybuf_desc.specs.Layouts.{Layout}

-- the bytes of the item at a place
abbrev pub bytes_at : List ℕ → ℕ → ℕ → List ℕ
bytes_at bytes size start = take size (drop start bytes)

-- the bytes of the items at places, in order
abbrev pub bytes_of_items : List ℕ → ℕ → List ℕ → List ℕ
bytes_of_items bytes size starts = flat_map (λ start. bytes_at bytes size start) starts

-- the bytes of a view's items, in order
abbrev pub content_of_layout : List ℕ → Layout → List ℕ
content_of_layout bytes view = bytes_of_items bytes view.itemsize view.starts
