-- What is written through one view can be read through every view of the same bytes.
use Rattle.std.proofs.Common.{◌≡◌, ℕ, ◌+◌, ◌≤◌, List, [], ◌∷◌, length, take, drop, ap, ap₂, sym, ◌∙◌, refl, subst, arith}
use Rattle.std.specs.Prelude.{slice_index, Result, Ok, Err}
use Rattle.pybuf_verbs_writes.specs.Facts.{bytes_before_piece}
use Rattle.pybuf_value.specs.Facts.{done_holds}
use Rattle.pybuf_value.specs.declared.faults.Fault.{Fault}
use Rattle.pybuf_value.specs.declared.values.Value.{Value}
use Rattle.pybuf_value.specs.declared.values.Scalar.{Scalar}
use Rattle.pybuf_value.specs.declared.snaps.Snap.{Snap}
use Rattle.pybuf_value.specs.Refusing.{◌>>=◌}
use Rattle.pybuf_struct.specs.Formats.{Format, format_of, fields}
use Rattle.pybuf_struct.specs.Packing.{packed_bytes}
use Rattle.pybuf_struct.specs.Laws.{PackingFillsTheFormat}
use Rattle.pybuf_desc.specs.Layouts.{Layout}
use Rattle.pybuf_command.specs.declared.commands.LocalReply.{LocalReply}
use Rattle.pybuf_command.specs.declared.commands.LocalReply.TheVariants as reply
use Rattle.pybuf_memoryview.specs.Items.{scalar_in, piece_by}
use Rattle.pybuf_state.specs.Exporter.{Exporter}
use Rattle.pybuf_state.specs.Loans.{snaps_of}
use Rattle.pybuf_state.specs.Sound.{IsFormed}
use Rattle.pybuf_state.specs.Laws.{LiveLayoutsAreSound}
use Rattle.pybuf_struct.specs.Values.{item_of, unpacked_values}
use Rattle.pybuf_struct.specs.Laws.{normal_values, ReadsWhatWasWritten}
use Rattle.pybuf_desc.specs.Items.{bytes_at}
use Rattle.pybuf_memoryview.specs.Items.{item_by, item_of_values}
use Rattle.pybuf_verbs_writes.specs.Laid.{bytes_with}
use Rattle.pybuf_verbs_writes.specs.Laws.{IsWritten, WritesAreSeen}
use Rattle.pybuf_verbs_writes.proofs.Bytes.{dropped, between}
use Rattle.pybuf_verbs_writes.proofs.Safe.{IsPiece, piece_is}

-- If a chain of two steps isn't refused, neither is its first step.
first_done : {A B : Type 0} (r : Result A Fault) (f : A → Result B Fault) (y : B) → (r >>= f) ≡ Ok y → (x : A) × (r ≡ Ok x) × (f x ≡ Ok y)
first_done (Ok x) f y is = (x, refl, is)
first_done (Err g) f y is = absurd (cc)

abbrev okay : {A : Type 0} → A → Result A Fault
okay x = Ok x

ok_same : {A : Type 0} (x y : A) → okay x ≡ okay y → x ≡ y
ok_same x y is = cc

-- An item that was written by a format reads as what its fields give back.
reads_back : ReadsWhatWasWritten → (text bytes piece : List ℕ) (place : ℕ) (f : Format) (pairs : List (ℕ × Snap)) (vs : List Scalar) → format_of text ≡ Ok f → packed_bytes f pairs vs ≡ Ok piece
    → length piece ≡ f.size → place ≤ length bytes → item_by text (bytes_at (bytes_with bytes place piece) f.size place) ≡ item_of (normal_values pairs (fields f) vs)
reads_back reads text bytes piece place f pairs vs spelled packs long inside =
    let there : take f.size (drop place (bytes_with bytes place piece)) ≡ piece = ap (λ (n : ℕ). take n (drop place (bytes_with bytes place piece))) (sym long) ∙ between bytes piece place inside in
    ap (λ (r : Result Format Fault). item_of_values (r >>= λ format. unpacked_values format (take f.size (drop place (bytes_with bytes place piece))))) spelled
    ∙ ap (λ (bs : List ℕ). item_of_values (unpacked_values f bs)) there
    ∙ ap item_of_values (reads text f pairs vs piece spelled packs)

written : ReadsWhatWasWritten → (e : Exporter) (layout : Layout) (place : ℕ) (value : Value) (pairs : List (ℕ × Snap)) (piece : List ℕ) → IsFormed layout → place + layout.itemsize ≤ length e.bytes
    → (made : IsPiece layout pairs value piece) → IsWritten e (record e { bytes = bytes_with e.bytes place piece }) layout place (item_of (normal_values pairs (fields made.format) (scalar_in value ∷ [])))
written reads e layout place value pairs piece formed room made =
    let long : length piece ≡ layout.itemsize = made.long formed in
    let size : made.format.size ≡ layout.itemsize = made.size formed in
    let inside : place + length piece ≤ length e.bytes = omega (arith, room, long) in
    let within : place ≤ length e.bytes = omega (arith, inside) in
    record {
      views = refl;
      before = bytes_before_piece e.bytes piece place within;
      after = ap (λ (n : ℕ). drop (place + n) (bytes_with e.bytes place piece)) (sym long) ∙ dropped e.bytes piece place inside ∙ ap (λ (n : ℕ). drop (place + n) e.bytes) long;
      read_back = λ other same_format same_size.
          ap₂ (λ (text : List ℕ) (n : ℕ). item_by text (bytes_at (bytes_with e.bytes place piece) n place)) same_format (same_size ∙ sym size)
          ∙ reads_back reads layout.format e.bytes piece place made.format pairs (scalar_in value ∷ []) made.spelled made.packs (long ∙ sym size) within;
    }

pub written_is_seen : LiveLayoutsAreSound → PackingFillsTheFormat → ReadsWhatWasWritten → WritesAreSeen
written_is_seen live fills reads e new k layout item value lents r sound found below done_so =
    let pairs = snaps_of lents in
    let place : ℕ = slice_index layout.starts item in
    let sound_layout = live e k layout sound found in
    let piece = first_done (piece_by layout.format pairs value) _ (new, r) done_so in
    let made = done_holds (IsPiece layout pairs value) (piece_by layout.format pairs value) piece.0 (piece_is fills layout pairs value) piece.1 in
    let is_new = ap (λ (p : Exporter × LocalReply). p.0) (ok_same (record e { bytes = bytes_with e.bytes place piece.0 }, reply.Ok) (new, r) piece.2) in (
      made.format,
      made.spelled,
      subst (λ (x : Exporter). IsWritten e x layout place (item_of (normal_values pairs (fields made.format) (scalar_in value ∷ [])))) is_new
          (written reads e layout place value pairs piece.0 sound_layout.formed (sound_layout.inside item 0 below) made),
    )
