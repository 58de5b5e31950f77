-- Views in which no two items share a byte.
use Rattle.std.specs.Prelude.{◌⊎◌, ℕ, ◌+◌, ◌<◌, ◌≤◌, List, length, slice_index}
use Rattle.pybuf_desc.specs.Layouts.{Layout}

-- no two items share a byte, if they have this size and these starts
abbrev pub AreApart : ℕ → List ℕ → Type 0
AreApart size starts =
    (i j : ℕ) → i < j → j < length starts → (slice_index starts i + size ≤ slice_index starts j) ⊎ (slice_index starts j + size ≤ slice_index starts i)

-- no two items of a view share a byte
abbrev pub HasItemsApart : Layout → Type 0
HasItemsApart view = AreApart view.itemsize view.starts
