-- Which snaps fit. A snap is a copy of what an exporter or a view has at one moment. It fits if its format, its shape
-- and its bytes agree.
use Rattle.std.specs.Prelude.{ℕ, ◌==◌, Bool, true, false, ◌&&◌, ◌||◌, List, [], ◌∷◌, length}
use Rattle.std.specs.Str.{byte}
use Rattle.pybuf_value.specs.declared.snaps.Snap.{Snap}
use Rattle.pybuf_value.specs.declared.snaps.SnapKind.{SnapKind}
use Rattle.pybuf_value.specs.declared.snaps.SnapKind.TheVariants as kind
use Rattle.pybuf_memoryview.specs.Sized.{is_sized, byte_count}

-- whether a format is that of bytes, which is `B`
abbrev pub is_byte_format : List ℕ → Bool
is_byte_format (b ∷ []) = b == byte "B"
is_byte_format _ = false

-- whether a shape is one dimension of this many entries
abbrev pub is_row_of : ℕ → List ℕ → Bool
is_row_of count (n ∷ []) = n == count
is_row_of count _ = false

-- whether the snap of an exporter has single bytes as its items, and as many as there are
abbrev pub is_whole : Snap → Bool
is_whole s = s.itemsize == 1 && is_byte_format s.format && is_row_of (length s.content) s.shape

-- whether the snap of an unreleased view has as many bytes as the items of its shape
abbrev pub is_filled : Snap → Bool
is_filled s = s.released || length s.content == byte_count s.itemsize s.shape

abbrev pub fits_kind : SnapKind → Snap → Bool
fits_kind kind.View s = is_filled s
fits_kind kind.Iterator s = true
fits_kind _ s = is_whole s

abbrev pub fits_snap : Snap → Bool
fits_snap s = fits_kind s.kind s && is_sized s.format s.itemsize
