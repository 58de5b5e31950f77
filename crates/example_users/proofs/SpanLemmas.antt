-- A view that shows all bytes.
use Rattle.std.proofs.Common.{◌≡◌, ℕ, suc, zero, ◌≤◌, true, false, List, ◌++◌, length, drop, refl, arith, ap, ◌∙◌, length-append, length-drop}
use Rattle.std.specs.Prelude.{slice_index}
use Rattle.std.specs.List.{range_with_len}
use Rattle.std.proofs.lemmas.List.{take-append-le}
use Rattle.std.proofs.Math.Seq.{take-length}
use Rattle.pybuf_desc.specs.Layouts.{bytes_layout}
use Rattle.pybuf_desc.specs.Contiguous.{is_contiguous_layout}
use Rattle.pybuf_desc.specs.Items.{content_of_layout}
use Rattle.pybuf_state.specs.Exporter.{Exporter}
use Rattle.pybuf_state.specs.Live.{layout_of, is_writable_run}
use Rattle.pybuf_exporter.specs.Lending.{written_from, overwritten_exporter}
use Rattle.example_users.specs.Lines.{IsSpanned}
use Rattle.example_users.proofs.PlaceLemmas.{bytes_in_row, in_row_together}

writable_by : (n : ℕ) → is_contiguous_layout (bytes_layout n false) ≡ true → is_writable_run (bytes_layout n false) ≡ true
writable_by n together = rw together refl

-- The view may be written as a whole.
pub spanned_writable : (e : Exporter) (view : ℕ) → IsSpanned e view → is_writable_run (layout_of e view) ≡ true
spanned_writable e view spanned = ap is_writable_run spanned.whole ∙ writable_by (length e.bytes) (in_row_together 0 (length e.bytes))

-- The bytes of the view are all bytes.
pub spanned_content : (e : Exporter) (view : ℕ) → IsSpanned e view → content_of_layout e.bytes (layout_of e view) ≡ e.bytes
spanned_content e view spanned = ap (content_of_layout e.bytes) spanned.whole ∙ (bytes_in_row e.bytes 0 (length e.bytes) ∙ take-length e.bytes)

first_start : (n : ℕ) → slice_index (range_with_len 0 n) 0 ≡ 0
first_start zero = refl
first_start (suc n) = refl

written_first : (e : Exporter) (new : List ℕ) → written_from e 0 new ≡ overwritten_exporter e new
written_first e new =
    let rest : List ℕ = drop (length new) e.bytes in
    let whole : List ℕ = new ++ rest in
    let long : length e.bytes ≤ length whole = simp (length-append, length-drop) (omega arith) in
    ap (λ bytes. record e { bytes = bytes }) (take-append-le (length e.bytes) whole (drop (length whole) e.bytes) long)

-- What is written through the view is written from the first byte on.
pub spanned_written : (e : Exporter) (view : ℕ) → IsSpanned e view → (new : List ℕ) → written_from e (slice_index (layout_of e view).starts 0) new ≡ overwritten_exporter e new
spanned_written e view spanned new =
    let at : slice_index (layout_of e view).starts 0 ≡ 0 = ap (λ l. slice_index l.starts 0) spanned.whole ∙ first_start (length e.bytes) in
    ap (λ place. written_from e place new) at ∙ written_first e new

-- the same for an exporter that is lent on
pub lent_writable : (e lent : Exporter) (view : ℕ) → IsSpanned e view → lent ≡ e → is_writable_run (layout_of lent view) ≡ true
lent_writable e lent view spanned same = ap (λ x. is_writable_run (layout_of x view)) same ∙ spanned_writable e view spanned

pub lent_content : (e lent : Exporter) (view : ℕ) → IsSpanned e view → lent ≡ e → content_of_layout lent.bytes (layout_of lent view) ≡ e.bytes
lent_content e lent view spanned same = ap (λ x. content_of_layout x.bytes (layout_of x view)) same ∙ spanned_content e view spanned

pub lent_written : (e lent : Exporter) (view : ℕ) → IsSpanned e view → lent ≡ e → (new : List ℕ) → written_from lent (slice_index (layout_of lent view).starts 0) new ≡ overwritten_exporter e new
lent_written e lent view spanned same new = ap (λ x. written_from x (slice_index (layout_of x view).starts 0) new) same ∙ spanned_written e view spanned new
