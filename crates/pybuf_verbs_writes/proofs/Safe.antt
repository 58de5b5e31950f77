-- Each effect that writes keeps a sound exporter.
use Rattle.std.proofs.Common.{◌≡◌, ℕ, ◌+◌, ◌<◌, ◌≤◌, List, [], ◌∷◌, length, Bool, true, false, true≢false, ap, sym, ◌∙◌, refl, arith}
use Rattle.std.specs.Prelude.{◌==◌, ◌&&◌, nat_lt, slice_index, Result, Ok, Err}
use Rattle.std.proofs.lemmas.Bool.{eqb-true}
use Rattle.pybuf_lemmas.proofs.Booleans.{both_of}
use Rattle.pybuf_state.specs.Facts.{safe_bind, safe_in_kind}
use Rattle.pybuf_value.specs.Facts.{done_holds, passed_unless}
use Rattle.pybuf_index.specs.Facts.{entry_below}
use Rattle.pybuf_value.specs.declared.faults.Fault.{Fault}
use Rattle.pybuf_value.specs.declared.faults.Fault.TheVariants as fault
use Rattle.pybuf_value.specs.declared.values.Value.{Value}
use Rattle.pybuf_value.specs.declared.snaps.Snap.{Snap}
use Rattle.pybuf_value.specs.Refusing.{unless, IfDone, done_bind}
use Rattle.pybuf_index.specs.Places.{entry_in}
use Rattle.pybuf_struct.specs.Formats.{Format, format_of}
use Rattle.pybuf_struct.specs.Packing.{packed_bytes}
use Rattle.pybuf_struct.specs.Laws.{PackingFillsTheFormat}
use Rattle.pybuf_desc.specs.Layouts.{Layout}
use Rattle.pybuf_memoryview.specs.Sized.{is_size_of, is_sized}
use Rattle.pybuf_memoryview.specs.Items.{index_in, is_none, kind_fault, scalar_in, piece_by}
use Rattle.pybuf_memoryview.specs.Keys.{item_of_key}
use Rattle.pybuf_memoryview.specs.Laws.{KeysNameItems}
use Rattle.pybuf_state.specs.Exporter.{Exporter, live_layout}
use Rattle.pybuf_state.specs.Loans.{Lent, snaps_of}
use Rattle.pybuf_state.specs.Sound.{IsFormed}
use Rattle.pybuf_state.specs.Laws.{LiveLayoutsAreSound, WritingKeeps}
use Rattle.pybuf_value.specs.Numbers.{byte_in}
use Rattle.pybuf_command.specs.declared.kinds.ExporterKind.{ExporterKind}
use Rattle.pybuf_command.specs.Kinds.{holds_readonly}
use Rattle.pybuf_state.specs.Keeps.{IsSafe}
use Rattle.pybuf_verbs_writes.specs.Laid.{bytes_with}
use Rattle.pybuf_verbs_writes.specs.Set.{byte_set, item_set, set_target}
use Rattle.pybuf_verbs_writes.specs.Laws.{SetIsSafe}
use Rattle.pybuf_verbs_writes.proofs.Bytes.{length-bytes_with}

-- ---- a byte of a bytearray

byte_safe : WritingKeeps → (e : Exporter) (key value : Value) → holds_readonly e.kind ≡ false → IsSafe e (byte_set e key value)
byte_safe writing e key value writable =
    safe_bind e (index_in key) _ (λ index _.
    safe_bind e (byte_in value) _ (λ byte _.
    safe_bind e (entry_in (length e.bytes) index) _ (λ place found.
    let below : place < length e.bytes = entry_below (length e.bytes) index place found in
    record {
      keeps = λ sound. writing e (bytes_with e.bytes place (byte ∷ [])) sound writable (length-bytes_with e.bytes place (byte ∷ []) (let one : place + 1 ≤ length e.bytes = omega (arith, below) in one));
      answers = refl;
    })))

-- ---- an item of a view

-- what holds of a target
pub record IsTarget (e : Exporter) (k : ℕ) (target : Layout × ℕ) : Type 0 where
  pub live : live_layout e k ≡ Ok target.0
  pub writable : target.0.readonly ≡ false
  pub item : IsFormed target.0 → target.1 < length target.0.starts

pub target_is : KeysNameItems → (e : Exporter) (k : ℕ) (key value : Value) → IfDone (IsTarget e k) (set_target e k key value)
target_is names e k key value =
    let P = IsTarget e k in
    done_bind P (live_layout e k) _ (λ layout found.
    done_bind P (unless layout.readonly fault.Kind) _ (λ u writable.
    done_bind P (unless (is_none value) fault.Kind) _ (λ _ _.
    done_bind P (item_of_key layout.shape key) _ (λ item named.
    record {
      live = found;
      writable = passed_unless layout.readonly fault.Kind u writable;
      item = λ formed. let below = names layout.shape key item named in omega (arith, below, formed.counted);
    }))))

-- The size of a view's format is its item size.
pub size_is : (text : List ℕ) (f : Format) (itemsize : ℕ) → format_of text ≡ Ok f → is_sized text itemsize ≡ true → f.size ≡ itemsize
size_is text f itemsize spelled sized =
    let told : (nat_lt 0 itemsize && f.size == itemsize) ≡ true = rw (sym (ap (λ (r : Result Format Fault). is_size_of itemsize r) spelled)) sized in
    eqb-true f.size itemsize (both_of (nat_lt 0 itemsize) (f.size == itemsize) told).1

pub kind_ok : {X : Type 0} (r : Result X Fault) (x : X) → kind_fault r ≡ Ok x → r ≡ Ok x
kind_ok (Ok y) x is = is
kind_ok (Err f) x is = absurd (cc)

-- the format that made a piece, and how long the piece is
pub record IsPiece (layout : Layout) (pairs : List (ℕ × Snap)) (value : Value) (piece : List ℕ) : Type 0 where
  pub format : Format
  pub spelled : format_of layout.format ≡ Ok format
  pub packs : packed_bytes format pairs (scalar_in value ∷ []) ≡ Ok piece
  pub size : IsFormed layout → format.size ≡ layout.itemsize
  pub long : IsFormed layout → length piece ≡ layout.itemsize

packed_piece : PackingFillsTheFormat → (layout : Layout) (pairs : List (ℕ × Snap)) (value : Value) (format : Format) → format_of layout.format ≡ Ok format
    → (r : Result (List ℕ) Fault) → packed_bytes format pairs (scalar_in value ∷ []) ≡ r → IfDone (IsPiece layout pairs value) (kind_fault r)
packed_piece fills layout pairs value format spelled (Err f) packs = tt
packed_piece fills layout pairs value format spelled (Ok piece) packs = record {
  format = format;
  spelled = spelled;
  packs = packs;
  size = λ formed. size_is layout.format format layout.itemsize spelled formed.sized;
  long = λ formed. fills layout.format format pairs (scalar_in value ∷ []) piece spelled packs ∙ size_is layout.format format layout.itemsize spelled formed.sized;
}

pub piece_is : PackingFillsTheFormat → (layout : Layout) (pairs : List (ℕ × Snap)) (value : Value) → IfDone (IsPiece layout pairs value) (piece_by layout.format pairs value)
piece_is fills layout pairs value =
    let P = IsPiece layout pairs value in
    done_bind P (kind_fault (format_of layout.format)) _ (λ format parsed.
    let spelled = kind_ok (format_of layout.format) format parsed in
    packed_piece fills layout pairs value format spelled (packed_bytes format pairs (scalar_in value ∷ [])) refl)

-- ---- the effect

-- A view that may be written is one of bytes that may be written.
by_kind : (k : ExporterKind) (b : Bool) (layout : Layout) → holds_readonly k ≡ b → layout.readonly ≡ false → (holds_readonly k ≡ true → layout.readonly ≡ true) → holds_readonly k ≡ false
by_kind k true layout is free only = absurd (true≢false (sym (only is) ∙ free))
by_kind k false layout is free only = is

pub writable : (k : ExporterKind) (layout : Layout) → layout.readonly ≡ false → (holds_readonly k ≡ true → layout.readonly ≡ true) → holds_readonly k ≡ false
writable k layout free only = by_kind k (holds_readonly k) layout refl free only

item_safe : WritingKeeps → LiveLayoutsAreSound → PackingFillsTheFormat → (e : Exporter) (k : ℕ) (target : Layout × ℕ) (value : Value) (lents : List Lent) → IsTarget e k target → IsSafe e (item_set e target.0 target.1 value lents)
item_safe writing live fills e k target value lents is =
    safe_bind e (piece_by target.0.format (snaps_of lents) value) _ (λ piece found.
    let made = done_holds (IsPiece target.0 (snaps_of lents) value) (piece_by target.0.format (snaps_of lents) value) piece (piece_is fills target.0 (snaps_of lents) value) found in
    record {
      keeps = λ sound.
          let layout = live e k target.0 sound is.live in
          let inside : slice_index target.0.starts target.1 + target.0.itemsize ≤ length e.bytes = layout.inside target.1 0 (is.item layout.formed) in
          let long : length piece ≡ target.0.itemsize = made.long layout.formed in
          writing e (bytes_with e.bytes (slice_index target.0.starts target.1) piece) sound (writable e.kind target.0 is.writable layout.readonly)
          (length-bytes_with e.bytes (slice_index target.0.starts target.1) piece (omega (arith, inside, long)));
      answers = refl;
    })

pub set_safe : WritingKeeps → LiveLayoutsAreSound → PackingFillsTheFormat → KeysNameItems → SetIsSafe
set_safe writing live fills names = (
  (λ e key value. safe_in_kind e e.kind (byte_set e key value) refl (λ writable. byte_safe writing e key value writable)),
  (λ e k key value lents.
      safe_bind e (set_target e k key value) _ (λ target found.
      item_safe writing live fills e k target value lents (done_holds (IsTarget e k) (set_target e k key value) target (target_is names e k key value) found))),
)
