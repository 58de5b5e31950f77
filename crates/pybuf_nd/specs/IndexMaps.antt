-- Indices, and views whose items are those of another view.
use Rattle.std.specs.Prelude.{ℕ, ◌<◌, ℤ, List, [], ◌∷◌, map, ⊤}
use Rattle.std.specs.List.{flat_map, range_with_len}
use Rattle.pybuf_desc.specs.Layouts.{Layout}
use Rattle.pybuf_desc.specs.ColumnOrder.{start_at}

-- The list has an index for each dimension of the shape, and each is below its number of entries.
abbrev pub IsIndexList : List ℕ → List ℕ → Type 0
IsIndexList [] [] = ⊤
IsIndexList (n ∷ shape) (index ∷ indices) = (index < n) × IsIndexList shape indices
IsIndexList _ _ = ⊥

-- all lists of indices of a shape, row-major, so that the last index changes fastest
abbrev pub index_lists : List ℕ → List (List ℕ)
index_lists [] = [] ∷ []
index_lists (n ∷ shape) = flat_map (λ index. map (λ (indices : List ℕ). index ∷ indices) (index_lists shape)) (range_with_len 0 n)

-- The view of this shape and these strides whose item at any indices is an item of the given view: `source`
-- makes that item's indices of them. All else is as in the given view.
abbrev pub view_by : Layout → List ℕ → List ℤ → (List ℕ → List ℕ) → Layout
view_by view shape strides source =
    record view {
      shape = shape;
      starts = map (λ indices. start_at view (source indices)) (index_lists shape);
      strides = strides;
    }
