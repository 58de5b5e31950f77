-- Views that were made and are unreleased.
use Rattle.std.specs.Prelude.{ℕ, Bool, true, false, not, ◌&&◌, Option, Some, None, slice_get}
use Rattle.pybuf_desc.specs.Layouts.{Layout, bytes_layout}
use Rattle.pybuf_desc.specs.Contiguous.{is_contiguous_layout}
use Rattle.pybuf_state.specs.Exporter.{Exporter, View}

abbrev pub is_unreleased : Option View → Bool
is_unreleased (Some v) = not v.released
is_unreleased None = false

-- whether the view with this number was made and is unreleased
abbrev pub is_live : Exporter → ℕ → Bool
is_live e k = is_unreleased (slice_get e.views k)

abbrev pub layout_in : Option View → Layout
layout_in (Some v) = v.layout
layout_in None = bytes_layout 0 true

-- the layout of the view with this number; the layout of no bytes if it was not made
abbrev pub layout_of : Exporter → ℕ → Layout
layout_of e k = layout_in (slice_get e.views k)

-- whether the items of a view lie one after the other and may be written
abbrev pub is_writable_run : Layout → Bool
is_writable_run layout = is_contiguous_layout layout && not layout.readonly
