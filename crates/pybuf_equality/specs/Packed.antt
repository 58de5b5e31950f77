-- Layouts whose items fill the bytes.
use Rattle.std.specs.Prelude.{◌≡◌, ℕ, List, length}
use Rattle.pybuf_desc.specs.Layouts.{Layout, LiesInside}
use Rattle.pybuf_desc.specs.Items.{content_of_layout}

-- the items have this format, size and shape, and their bytes, in order, are these
pub record IsPacked (bytes text : List ℕ) (size : ℕ) (entries : List ℕ) (layout : Layout) : Type 0 where
  pub format : layout.format ≡ text
  pub itemsize : layout.itemsize ≡ size
  pub shape : layout.shape ≡ entries
  pub inside : LiesInside (length bytes) layout
  pub content : content_of_layout bytes layout ≡ bytes
