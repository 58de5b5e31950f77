-- The items of a view in column order are items of this view.
use Rattle.std.proofs.Common.{◌≡◌, ℕ, zero, suc, ◌+◌, ◌*◌, ◌<◌, ◌≤◌, ℤ, pos, List, [], ◌∷◌, length, map, flat_map, refl, ap, sym, subst, arith}
use Rattle.std.specs.List.{All, AllByRecursion, range_with_len}
use Rattle.std.proofs.lemmas.List.Elements.{All-from_recursion}
use Rattle.std.proofs.lemmas.Simd.{map-map}
use Rattle.pybuf_lemmas.proofs.Lists.{flat_map_of_none}
use Rattle.pybuf_desc.specs.Layouts.{Layout, product, HasItemsOfItsShape, LiesInside}
use Rattle.pybuf_desc.specs.Descriptor.{shape_of}
use Rattle.pybuf_desc.specs.Positions.{AreIndices, number_of_item}
use Rattle.pybuf_desc.specs.ColumnOrder.{number_at, start_at, column_index_lists, column_starts, columns_of}
use Rattle.pybuf_desc.proofs.Indices.{number_below}
use Rattle.pybuf_desc.proofs.ColumnRuns.{length-column_places}
use Rattle.pybuf_desc.proofs.ColumnViews.{column_indices, number_is}
use Rattle.pybuf_desc.proofs.ColumnWalks.{all_mapped}

-- dimensions of these entries
abbrev dims_with : List ℕ → List (ℕ × ℤ × ℤ)
dims_with shape = map (λ n. (n, pos 0, pos 0)) shape

shape_with : (shape : List ℕ) → shape_of (dims_with shape) ≡ shape
shape_with [] = refl
shape_with (n ∷ shape) = ap (λ (ns : List ℕ). n ∷ ns) (shape_with shape)

below : (shape : List ℕ) → AllByRecursion (λ indices. number_at shape indices < product shape) (column_index_lists shape)
below shape =
    subst (λ (ns : List ℕ). AllByRecursion (λ indices. number_at ns indices < product ns) (column_index_lists ns)) (shape_with shape)
    (each (column_index_lists (shape_of (dims_with shape))) (column_indices (dims_with shape)))
  where
    each : (lists : List (List ℕ)) → AllByRecursion (λ indices. AreIndices indices (dims_with shape)) lists
        → AllByRecursion (λ indices. number_at (shape_of (dims_with shape)) indices < product (shape_of (dims_with shape))) lists
    each [] all = tt
    each (indices ∷ lists) all =
        (subst (λ (k : ℕ). k < product (shape_of (dims_with shape))) (number_is indices (dims_with shape)) (number_below indices (dims_with shape) all.0), each lists all.1)

pub columns_inside : (room : ℕ) (view : Layout) → HasItemsOfItsShape view → LiesInside room view → LiesInside room (columns_of view)
columns_inside room view counted inside =
    All-from_recursion (λ start. start + view.itemsize ≤ room) (column_starts view)
    (all_mapped (λ indices. number_at view.shape indices < product view.shape) (λ start. start + view.itemsize ≤ room) (start_at view) (column_index_lists view.shape) (below view.shape)
    (λ indices small. inside (number_at view.shape indices) 0 (subst (λ (n : ℕ). number_at view.shape indices < n) (sym counted) small)))

no_lists : (shape : List ℕ) → product shape ≡ 0 → column_index_lists shape ≡ []
no_lists [] none = absurd (omega (arith, none))
no_lists (zero ∷ shape) none = flat_map_of_none (λ (indices : List ℕ). map (λ index. index ∷ indices) (range_with_len 0 0)) (column_index_lists shape) (λ indices. refl)
no_lists (suc n ∷ shape) none =
    ap (flat_map (λ (indices : List ℕ). map (λ index. index ∷ indices) (range_with_len 0 (suc n)))) (no_lists shape (omega (arith, none)))

pub no_columns : (view : Layout) → product view.shape ≡ 0 → column_starts view ≡ []
no_columns view none = ap (map (start_at view)) (no_lists view.shape none)
