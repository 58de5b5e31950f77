-- The view of the items at one place of one axis.
use Rattle.std.specs.Prelude.{ℕ, ℤ, insert, remove, slice_index, List, Result, Ok}
use Rattle.pybuf_value.specs.declared.faults.Fault.{Fault}
use Rattle.pybuf_value.specs.declared.faults.Fault.TheVariants as fault
use Rattle.pybuf_value.specs.Refusing.{◌>>=◌, unless}
use Rattle.pybuf_index.specs.Places.{entry_in}
use Rattle.pybuf_desc.specs.Layouts.{Layout}
use Rattle.pybuf_nd.specs.IndexMaps.{view_by}
use Rattle.pybuf_nd.specs.Selections.{has_zero}

-- the view whose axis is left out, and whose index there is always the entry
abbrev pub plane_of : Layout → ℕ → ℕ → Layout
plane_of view axis entry = view_by view (remove view.shape axis) (remove view.strides axis) (λ indices. insert indices axis entry)

-- The entry of the axis that a place names, and a negative place counts from the end. The call is refused if
-- there is no such entry, and then if a dimension has no entry.
abbrev pub entry_of_place : List ℕ → ℕ → ℤ → Result ℕ Fault
entry_of_place shape axis place = do
  entry ← entry_in (slice_index shape axis) place
  _ ← unless (has_zero shape) fault.Value
  Ok entry
