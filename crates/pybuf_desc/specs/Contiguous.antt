-- Views whose items lie one after the other without a gap.
use Rattle.std.specs.Prelude.{ℕ, ◌+◌, ◌*◌, Bool, List, [], ◌∷◌, length, map, bytes_eq}
use Rattle.std.specs.List.{range_with_len}
use Rattle.pybuf_desc.specs.Layouts.{Layout}

-- this many places from the first of the given ones on, each `size` after the one before it; none if none is given
abbrev pub starts_from : List ℕ → ℕ → ℕ → List ℕ
starts_from [] size count = []
starts_from (first ∷ starts) size count = map (λ k. first + k * size) (range_with_len 0 count)

-- A view is C-contiguous if, in row-major order, item k lies k item sizes after the first item. This holds if there are
-- no items. (`bytes_eq` compares lists of numbers.)
abbrev pub is_contiguous_layout : Layout → Bool
is_contiguous_layout view = bytes_eq view.starts (starts_from view.starts view.itemsize (length view.starts))
