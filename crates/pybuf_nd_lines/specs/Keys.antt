-- How slices are spelled, one for each dimension.
use Rattle.std.specs.Prelude.{ℕ, List, Option, Some, None, Result, Ok, Err}
use Rattle.pybuf_value.specs.Choosing.{◌>>=◌}
use Rattle.pybuf_value.specs.declared.faults.Fault.{Fault}
use Rattle.pybuf_value.specs.declared.values.PySlice.{PySlice}
use Rattle.pybuf_value.specs.declared.values.Value.{Value}
use Rattle.pybuf_value.specs.declared.values.Value.TheVariants as value
use Rattle.pybuf_index.specs.Parts.{SliceParts, saturated_parts_of}
use Rattle.pybuf_line.specs.Scalars.{handle_in}
use Rattle.pybuf_line.specs.Spellings.{value_in}
use Rattle.pybuf_nd_lines.specs.Shapes.{each_gives}

abbrev pub accepted : Result SliceParts Fault → Option SliceParts
accepted (Ok parts) = Some parts
accepted (Err f) = None

-- the parts of a slice that isn't refused: each is None or a number, and the step isn't 0
abbrev pub parts_in : PySlice → Option SliceParts
parts_in slice = accepted (saturated_parts_of slice)

abbrev pub slices_of_value : Value → Option (List SliceParts)
slices_of_value (value.Slices slices) = each_gives parts_in slices
slices_of_value _ = None

-- The slices that a word spells: a tuple of slices, none of which is refused.
abbrev pub slices_in : List ℕ → Option (List SliceParts)
slices_in word = do
  v ← value_in handle_in word
  slices_of_value v
