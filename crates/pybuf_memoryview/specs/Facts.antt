-- Facts about the definitions of this crate, with their proofs, for the proofs of the crates above.
use Rattle.std.proofs.Common.{◌≡◌, ℕ, ◌<◌, true, true≢false, sym, List, [], ◌∷◌, ap, ◌*◌, length, ap₂, ◌∙◌, arith}
use Rattle.std.specs.Prelude.{◌==◌, nat_lt, Result, Ok, Err, ◌&&◌}
use Rattle.std.proofs.lemmas.Bool.{ltb-true, eqb-true}
use Rattle.pybuf_lemmas.proofs.Booleans.{first_of_both, both_of}
use Rattle.pybuf_value.specs.declared.faults.Fault.{Fault}
use Rattle.pybuf_value.specs.declared.snaps.Snap.{Snap}
use Rattle.pybuf_struct.specs.Formats.{Format}
use Rattle.pybuf_desc.specs.Layouts.{Layout, HasItemsOfItsShape}
use Rattle.pybuf_memoryview.specs.Sized.{is_size_of, byte_count}
use Rattle.pybuf_memoryview.specs.Fits.{is_row_of, is_whole, is_byte_format}
use Rattle.pybuf_memoryview.specs.Orders.{nbytes_of}

pub sized_some : (n : ℕ) (r : Result Format Fault) → is_size_of n r ≡ true → 0 < n
sized_some n (Ok format) is = ltb-true 0 n (first_of_both (nat_lt 0 n) (format.size == n) is)
sized_some n (Err f) is = absurd (true≢false (sym is))

pub row_shape : (n : ℕ) (shape : List ℕ) → is_row_of n shape ≡ true → shape ≡ n ∷ []
row_shape n [] is = absurd (true≢false (sym is))
row_shape n (m ∷ []) is = ap (λ (k : ℕ). k ∷ []) (eqb-true m n is)
row_shape n (m ∷ (k ∷ shape)) is = absurd (true≢false (sym is))

pub length_of_content : (s : Snap) → is_whole s ≡ true → length s.content ≡ byte_count s.itemsize s.shape
length_of_content s is =
    let parts = both_of (s.itemsize == 1 && is_byte_format s.format) (is_row_of (length s.content) s.shape) is in
    let first = both_of (s.itemsize == 1) (is_byte_format s.format) parts.0 in
    let shape = row_shape (length s.content) s.shape parts.1 in
    let one : length s.content ≡ 1 * (length s.content * 1) = omega arith in
    one ∙ sym (ap₂ (λ (size : ℕ) (sh : List ℕ). byte_count size sh) (eqb-true s.itemsize 1 first.0) shape)

pub bytes_counted : (layout : Layout) → HasItemsOfItsShape layout → nbytes_of layout ≡ layout.itemsize * length layout.starts
bytes_counted layout counted = ap (λ (n : ℕ). layout.itemsize * n) (sym counted)
