-- Laws of the views that are made.
use Rattle.std.specs.Prelude.{◌≡◌, ℕ, ℤ, List}
use Rattle.pybuf_desc.specs.Layouts.{Layout, HasItemsOfItsShape}
use Rattle.pybuf_desc.specs.Items.{bytes_of_items, content_of_layout}
use Rattle.pybuf_desc.specs.Descriptor.{Descriptor}
use Rattle.pybuf_desc.specs.ColumnOrder.{start_at, column_starts}
use Rattle.pybuf_nd.specs.IndexMaps.{IsIndexList, view_by}
use Rattle.pybuf_nd.specs.Axes.{transposition_of}
use Rattle.pybuf_nd.specs.Chains.{Step, view_after_all, Makes, IsChain, last_made}

-- The item at any indices is the given view's item at the indices that are made of them. The view has one item
-- for each list of indices of its shape.
pub record IsViewBy (view : Layout) (source : List ℕ → List ℕ) (made : Layout) : Type 0 where
  pub items : HasItemsOfItsShape made
  pub at : (indices : List ℕ) → IsIndexList made.shape indices → start_at made indices ≡ start_at view (source indices)

abbrev pub ViewsGoByIndices : Type 0
ViewsGoByIndices = (view : Layout) (shape : List ℕ) (strides : List ℤ) (source : List ℕ → List ℕ) → IsViewBy view source (view_by view shape strides source)

-- However many steps there are, the last descriptor is valid for the same room, and stands for the view that
-- the steps make.
abbrev pub ChainsStand : Type 0
ChainsStand =
    (steps : List Step) (d : Descriptor) (start : ℕ) (made : List (Descriptor × ℕ)) → IsChain steps d start made
    → Makes (view_after_all steps) d start (last_made (d, start) made)

-- If a view is transposed twice, its items are where they were.
abbrev pub TransposingTwiceIsNothing : Type 0
TransposingTwiceIsNothing = (view : Layout) → HasItemsOfItsShape view → (transposition_of (transposition_of view)).starts ≡ view.starts

-- The items of the transposition, row-major, are those of the view in column order.
abbrev pub TranspositionsAreColumnOrder : Type 0
TranspositionsAreColumnOrder =
    (bytes : List ℕ) (view : Layout) → content_of_layout bytes (transposition_of view) ≡ bytes_of_items bytes view.itemsize (column_starts view)
