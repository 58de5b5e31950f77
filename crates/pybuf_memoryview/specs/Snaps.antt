-- The snap that a view is lent as: a copy of what the view has at that moment.
use Rattle.std.specs.Prelude.{ℕ, Bool, List, [], true, false, if◌then◌else◌}
use Rattle.pybuf_value.specs.declared.snaps.Snap.{Snap}
use Rattle.pybuf_value.specs.declared.snaps.SnapKind.TheVariants as kind
use Rattle.pybuf_desc.specs.Layouts.{Layout}
use Rattle.pybuf_desc.specs.Items.{content_of_layout}
use Rattle.pybuf_desc.specs.Contiguous.{is_contiguous_layout}

-- the snap of a view over these bytes, as the view stands; it has no bytes if the view was released
abbrev pub snap_of_layout : List ℕ → Layout → Bool → Snap
snap_of_layout bytes layout released = record {
  kind = kind.View;
  format = layout.format;
  itemsize = layout.itemsize;
  shape = layout.shape;
  content = if released then [] else content_of_layout bytes layout;
  contiguous = is_contiguous_layout layout;
  released = released;
}

-- the snap of an unreleased view that a copy of its bytes has: its items lie one after the other
abbrev pub snap_of_copy : List ℕ → Layout → Snap
snap_of_copy bytes layout = record (snap_of_layout bytes layout false) { contiguous = true }
