-- Views that are made of views, step by step.
use Rattle.std.specs.Prelude.{ℕ, List, [], ◌∷◌}
use Rattle.pybuf_index.specs.Parts.{SliceParts}
use Rattle.pybuf_desc.specs.Layouts.{Layout}
use Rattle.pybuf_desc.specs.Slices.{slice_of}
use Rattle.pybuf_desc.specs.Casts.{cast_of}
use Rattle.pybuf_desc.specs.ShapedCasts.{cast_to}
use Rattle.pybuf_desc.specs.ColumnCasts.{column_cast_to}
use Rattle.pybuf_desc.specs.Descriptor.{Descriptor}
use Rattle.pybuf_desc.specs.Places.{Stands}
use Rattle.pybuf_desc.specs.Valid.{IsValid}
use Rattle.pybuf_nd.specs.Selections.{selection_of}
use Rattle.pybuf_nd.specs.Planes.{plane_of}
use Rattle.pybuf_nd.specs.Axes.{view_in_order, transposition_of}

-- one way to make a view of a view
pub data Step : Type 0 where
  Slice : SliceParts → Step
  Select : List SliceParts → Step
  Order : List ℕ → Step
  Transpose : Step
  Pick : ℕ → ℕ → Step
  CastFlat : List ℕ → ℕ → Step
  CastShape : List ℕ → ℕ → List ℕ → Step
  CastColumns : List ℕ → ℕ → List ℕ → Step

abbrev pub view_after : Step → Layout → Layout
view_after (Slice parts) view = slice_of view parts
view_after (Select slices) view = selection_of view slices
view_after (Order axes) view = view_in_order view axes
view_after Transpose view = transposition_of view
view_after (Pick axis entry) view = plane_of view axis entry
view_after (CastFlat format size) view = cast_of view format size
view_after (CastShape format size shape) view = cast_to view format size shape
view_after (CastColumns format size shape) view = column_cast_to view format size shape

abbrev pub view_after_all : List Step → Layout → Layout
view_after_all [] view = view
view_after_all (step ∷ steps) view = view_after_all steps (view_after step view)

-- What a call promises of a descriptor that it makes of another. The new descriptor is valid for the same room.
-- If the other stands for a view, the new one stands for the view that is made of that view.
pub record Makes (change : Layout → Layout) (d : Descriptor) (start : ℕ) (made : Descriptor × ℕ) : Type 0 where
  pub valid : (room : ℕ) → IsValid d start room → IsValid made.0 made.1 room
  pub stands : (view : Layout) → Stands d start view → Stands made.0 made.1 (change view)

-- Each descriptor was made of the one before, by the steps in order.
abbrev pub IsChain : List Step → Descriptor → ℕ → List (Descriptor × ℕ) → Type 0
IsChain [] d start [] = Unit {0}
IsChain (step ∷ steps) d start (made ∷ later) = Makes (view_after step) d start made × IsChain steps made.0 made.1 later
IsChain _ _ _ _ = ⊥

-- the last of these descriptors
abbrev pub last_made : Descriptor × ℕ → List (Descriptor × ℕ) → Descriptor × ℕ
last_made made [] = made
last_made made (next ∷ later) = last_made next later
