-- The view of the same items, whose axes have another order.
use Rattle.std.specs.Prelude.{◌&&◌, ℕ, pos, List, ◌∷◌, length, map, reverse, nat_lt, slice_index, slice_index_or, slice_set, IsPermutation, Result, Bool}
use Rattle.std.specs.List.{range_with_len}
use Rattle.pybuf_value.specs.declared.faults.Fault.{Fault}
use Rattle.pybuf_value.specs.declared.faults.Fault.TheVariants as fault
use Rattle.pybuf_value.specs.Refusing.{unless}
use Rattle.pybuf_desc.specs.Layouts.{Layout}
use Rattle.pybuf_nd.specs.IndexMaps.{view_by}
use Rattle.pybuf_nd.specs.Selections.{has_zero}

-- The list has each of `count` axes once, in any order.
abbrev pub AreAxes : ℕ → List ℕ → Type 0
AreAxes count axes = IsPermutation (range_with_len 0 count) axes

-- the axes from the last to the first
abbrev pub reversed_axes : ℕ → List ℕ
reversed_axes count = reverse (range_with_len 0 count)

-- these indices, with each new index put at its axis
abbrev pub put_at_axes : List ℕ → List ℕ → List ℕ → List ℕ
put_at_axes (axis ∷ axes) (index ∷ indices) made = slice_set (put_at_axes axes indices made) axis index
put_at_axes _ _ made = made

-- the indices whose entry at axis `axes[d]` is index d, for each d
abbrev pub indices_by_axis : List ℕ → List ℕ → List ℕ
indices_by_axis axes indices = put_at_axes axes indices (map (λ _. 0) axes)

-- the view whose dimension d is axis `axes[d]` of the given view
abbrev pub view_in_order : Layout → List ℕ → Layout
view_in_order view axes =
    view_by view (map (λ axis. slice_index view.shape axis) axes) (map (λ axis. slice_index_or view.strides axis (pos 0)) axes) (indices_by_axis axes)

-- the view with its axes reversed
abbrev pub transposition_of : Layout → Layout
transposition_of view = view_in_order view (reversed_axes (length view.shape))

-- An order of axes is refused if a view of several dimensions has one without an entry.
abbrev pub order_check : List ℕ → Result Bool Fault
order_check shape = unless (has_zero shape && nat_lt 1 (length shape)) fault.Value
