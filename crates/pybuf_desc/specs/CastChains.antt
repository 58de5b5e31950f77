-- Casts one after another.
use Rattle.std.specs.Prelude.{◌≡◌, ⊤, ℕ, ◌*◌, ◌%◌, ◌<◌, true, List, [], ◌∷◌, ◌++◌, length}
use Rattle.pybuf_desc.specs.Layouts.{Layout, product}
use Rattle.pybuf_desc.specs.Contiguous.{is_contiguous_layout}
use Rattle.pybuf_desc.specs.Casts.{cast_of}
use Rattle.pybuf_desc.specs.ShapedCasts.{cast_to}
use Rattle.pybuf_desc.specs.ColumnCasts.{column_cast_to}

-- a cast to items of a format and a size: in one dimension, in a shape, or in a shape in column order
pub data Cast : Type 0 where
  Flat : List ℕ → ℕ → Cast
  Shaped : List ℕ → ℕ → List ℕ → Cast
  InColumns : List ℕ → ℕ → List ℕ → Cast

abbrev pub after_cast : Cast → Layout → Layout
after_cast (Flat format size) view = cast_of view format size
after_cast (Shaped format size shape) view = cast_to view format size shape
after_cast (InColumns format size shape) view = column_cast_to view format size shape

abbrev pub after_casts : List Cast → Layout → Layout
after_casts [] view = view
after_casts (cast ∷ casts) view = after_casts casts (after_cast cast view)

abbrev pub size_of_cast : Cast → ℕ
size_of_cast (Flat format size) = size
size_of_cast (Shaped format size shape) = size
size_of_cast (InColumns format size shape) = size

-- the items of the cast make up this number of bytes
abbrev pub MakesUp : Cast → ℕ → Type 0
MakesUp (Flat format size) bytes = bytes % size ≡ 0
MakesUp (Shaped format size shape) bytes = bytes ≡ product shape * size
MakesUp (InColumns format size shape) bytes = bytes ≡ product shape * size

-- The items of the view lie one after the other. The items of the cast have at least one byte, and make up the bytes of
-- the view.
pub record CanBeCast (view : Layout) (cast : Cast) : Type 0 where
  pub contiguous : is_contiguous_layout view ≡ true
  pub some : 0 < size_of_cast cast
  pub whole : MakesUp cast (length view.starts * view.itemsize)

-- each of the casts can be done on what the casts before it made
abbrev pub CanAllBeCast : Layout → List Cast → Type 0
CanAllBeCast view [] = ⊤
CanAllBeCast view (cast ∷ casts) = CanBeCast view cast × CanAllBeCast (after_cast cast view) casts

-- Several casts, one after another, make what the last of them makes of the view alone, and that one can be done.
pub record IsTheLast (view : Layout) (casts : List Cast) (last : Cast) : Type 0 where
  pub can : CanBeCast view last
  pub same : after_casts (casts ++ last ∷ []) view ≡ after_cast last view

abbrev pub ChainsOfCastsAreTheLast : Type 0
ChainsOfCastsAreTheLast =
    (view : Layout) (casts : List Cast) (last : Cast) → 0 < view.itemsize → CanAllBeCast view (casts ++ last ∷ []) → IsTheLast view casts last
