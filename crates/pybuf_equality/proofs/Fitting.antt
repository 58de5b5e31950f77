-- A snap that fits has all its items.
use Rattle.std.proofs.Common.{◌≡◌, true, false, true≢false, length, sym, ◌∙◌, refl}
use Rattle.std.specs.Prelude.{◌==◌}
use Rattle.std.proofs.lemmas.Bool.{eqb-true}
use Rattle.pybuf_lemmas.proofs.Booleans.{first_of_both, second_of_both}
use Rattle.pybuf_memoryview.specs.Facts.{sized_some, length_of_content}
use Rattle.pybuf_value.specs.declared.snaps.Snap.{Snap}
use Rattle.pybuf_value.specs.declared.snaps.SnapKind.{SnapKind}
use Rattle.pybuf_value.specs.declared.snaps.SnapKind.TheVariants as kind
use Rattle.pybuf_struct.specs.Formats.{format_of}
use Rattle.pybuf_memoryview.specs.Fits.{fits_kind}
use Rattle.pybuf_memoryview.specs.Sized.{is_sized, byte_count}
use Rattle.pybuf_equality.specs.Laws.{FittingSnapsHaveAllItems}
use Rattle.pybuf_equality.proofs.Bools.{either}

filled_by : (k : SnapKind) (s : Snap) → fits_kind k s ≡ true → s.released ≡ false → (k ≡ kind.Iterator → ⊥) → length s.content ≡ byte_count s.itemsize s.shape
filled_by kind.Iterator s fits live other = absurd (other refl)
filled_by kind.View s fits live other =
    eqb-true (length s.content) (byte_count s.itemsize s.shape) (either s.released (length s.content == byte_count s.itemsize s.shape) fits (λ e. true≢false (sym e ∙ live)))
filled_by kind.Bytes s fits live other = length_of_content s fits
filled_by kind.ByteArray s fits live other = length_of_content s fits
filled_by kind.Vector s fits live other = length_of_content s fits

pub all_items : FittingSnapsHaveAllItems
all_items s fits live other = record {
  some_size = sized_some s.itemsize (format_of s.format) (second_of_both (fits_kind s.kind s) (is_sized s.format s.itemsize) fits);
  filled = filled_by s.kind s (first_of_both (fits_kind s.kind s) (is_sized s.format s.itemsize) fits) live other;
}
