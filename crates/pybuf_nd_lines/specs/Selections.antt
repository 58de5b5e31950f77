-- Which bytes of an input are selected. The input's bytes lie in a shape, and words spell the selection.
use Rattle.std.specs.Prelude.{◌≡◌, ℕ, ◌==◌, Bool, true, false, List, [], ◌∷◌, length, codes, Option, Some, None, if◌then◌else◌}
use Rattle.std.specs.Str.{bytes_eq}
use Rattle.pybuf_value.specs.Choosing.{◌>>=◌}
use Rattle.pybuf_index.specs.Parts.{SliceParts}
use Rattle.pybuf_desc.specs.Layouts.{Layout, product, bytes_layout}
use Rattle.pybuf_desc.specs.Items.{content_of_layout}
use Rattle.pybuf_desc.specs.ShapedCasts.{cast_to}
use Rattle.pybuf_nd.specs.Selections.{selection_of}
use Rattle.pybuf_nd.specs.Axes.{transposition_of}
use Rattle.pybuf_nd_lines.specs.Shapes.{IsShape, shape_in}
use Rattle.pybuf_nd_lines.specs.Keys.{slices_in}

-- A selection of bytes in a shape. Slices pick the bytes, one slice for each dimension, and the result may be
-- transposed.
pub record Selection : Type 0 where
  pub shape : List ℕ
  pub slices : List SliceParts
  pub transposed : Bool

-- what holds of every selection
pub record IsSelection (s : Selection) : Type 0 where
  pub shape : IsShape s.shape
  pub one_each : length s.slices ≡ length s.shape

-- ---- words

abbrev pub if_one_each : List ℕ → List SliceParts → Bool → Option Selection
if_one_each shape slices transposed =
    if length slices == length shape then Some (record { shape = shape; slices = slices; transposed = transposed }) else None

-- the selection by a shape and as many slices as the shape has dimensions
abbrev pub selection_spelled : List ℕ → List ℕ → Bool → Option Selection
selection_spelled shape key transposed = do
  entries ← shape_in shape
  slices ← slices_in key
  if_one_each entries slices transposed

-- What words ask for: a shape and slices. The word `T` may follow, which asks for the transposition.
abbrev pub selection_in : List (List ℕ) → Option Selection
selection_in (shape ∷ key ∷ []) = selection_spelled shape key false
selection_in (shape ∷ key ∷ turn ∷ []) = if bytes_eq turn (codes "T") then selection_spelled shape key true else None
selection_in _ = None

-- ---- bytes

-- the view of bytes in a shape, row-major, from the first byte on
abbrev pub bytes_in_shape : List ℕ → Layout
bytes_in_shape shape = cast_to (bytes_layout (product shape) true) (codes "B") 1 shape

abbrev pub transposed_if : Bool → Layout → Layout
transposed_if true view = transposition_of view
transposed_if false view = view

-- the view of the bytes that are selected
abbrev pub selected : Selection → Layout
selected s = transposed_if s.transposed (selection_of (bytes_in_shape s.shape) s.slices)

-- how many bytes the input must have, which the shape says
abbrev pub bytes_due : Selection → ℕ
bytes_due s = product s.shape

-- the bytes that are selected, row-major
abbrev pub selection_text : Selection → List ℕ → List ℕ
selection_text s input = content_of_layout input (selected s)
