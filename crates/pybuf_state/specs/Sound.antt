-- What holds of every exporter.
use Rattle.std.specs.Prelude.{◌≡◌, ℕ, List, length, true, false}
use Rattle.std.specs.List.{All}
use Rattle.pybuf_desc.specs.Layouts.{Layout, HasItemsOfItsShape, LiesInside}
use Rattle.pybuf_command.specs.declared.kinds.ExporterKind.{ExporterKind}
use Rattle.pybuf_command.specs.Kinds.{holds_readonly}
use Rattle.pybuf_memoryview.specs.Sized.{is_sized}
use Rattle.pybuf_state.specs.Exporter.{Exporter, View}

-- The text of the format can be read, and the format's size is at least 1 and is the item size. There are as many items
-- as the shape says.
pub record IsFormed (layout : Layout) : Type 0 where
  pub sized : is_sized layout.format layout.itemsize ≡ true
  pub counted : HasItemsOfItsShape layout

-- each byte of each item lies inside the exporter, which is as long as it was when the view was made
pub record IsHeld (bytes : List ℕ) (v : View) : Type 0 where
  pub inside : LiesInside (length bytes) v.layout
  pub length_kept : v.made_at ≡ length bytes

-- What holds of each view of an exporter of this kind with these bytes. If the bytes are never written, the view is
-- read-only. The view is held unless it was released.
pub record IsSoundView (k : ExporterKind) (bytes : List ℕ) (v : View) : Type 0 where
  pub formed : IsFormed v.layout
  pub readonly : holds_readonly k ≡ true → v.layout.readonly ≡ true
  pub held : v.released ≡ false → IsHeld bytes v

pub record IsSoundExporter (e : Exporter) : Type 0 where
  pub views : All (IsSoundView e.kind e.bytes) e.views
