-- How many bytes the items of a view have, and whether there are items.
use Rattle.std.specs.Prelude.{ℕ, ◌==◌, Bool, List}
use Rattle.std.specs.List.{list_any}
use Rattle.pybuf_desc.specs.Layouts.{Layout}
use Rattle.pybuf_memoryview.specs.Sized.{byte_count}

-- the number of bytes of all items
abbrev pub nbytes_of : Layout → ℕ
nbytes_of layout = byte_count layout.itemsize layout.shape

-- whether a dimension has no entry
abbrev pub has_zero_entry : List ℕ → Bool
has_zero_entry shape = list_any (λ n. n == 0) shape
