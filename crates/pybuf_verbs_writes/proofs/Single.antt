-- An item of the format `B` is written as its one byte.
use Rattle.std.proofs.Common.{◌≡◌, ℕ, List, [], ◌∷◌, Result, Ok, Err, slice_index, true, refl, ap, sym, ◌∙◌}
use Rattle.std.specs.Prelude.{codes}
use Rattle.std.proofs.lemmas.Bool.{eqb-true}
use Rattle.pybuf_value.specs.declared.faults.Fault.{Fault}
use Rattle.pybuf_value.specs.declared.values.Value.{Value}
use Rattle.pybuf_value.specs.Refusing.{◌>>=◌}
use Rattle.pybuf_desc.specs.Layouts.{Layout}
use Rattle.pybuf_memoryview.specs.Fits.{is_byte_format}
use Rattle.pybuf_command.specs.declared.commands.LocalReply.{LocalReply}
use Rattle.pybuf_command.specs.declared.commands.LocalReply.TheVariants as reply
use Rattle.pybuf_memoryview.specs.Items.{piece_by}
use Rattle.pybuf_memoryview.specs.SingleBytes.{byte_for_item}
use Rattle.pybuf_memoryview.specs.Laws.{ByteItemsAreTheirByte}
use Rattle.pybuf_state.specs.Exporter.{Exporter}
use Rattle.pybuf_state.specs.Loans.{Lent, snaps_of}
use Rattle.pybuf_verbs_writes.specs.Laid.{bytes_with}
use Rattle.pybuf_verbs_writes.specs.Set.{set_target, item_set, set_of_view}
use Rattle.pybuf_verbs_writes.specs.Writing.{single_byte_set, IsStartOfTarget}

byte_text : (f : List ℕ) → is_byte_format f ≡ true → f ≡ codes "B"
byte_text [] is = cc is
byte_text (b ∷ []) is = ap (λ (x : ℕ). x ∷ []) (eqb-true b 66 is)
byte_text (b ∷ x ∷ xs) is = cc is

bound_one : {X : Type 0} (byte : Result ℕ Fault) (f : List ℕ → Result X Fault) → ((byte >>= λ b. Ok (b ∷ [])) >>= f) ≡ (byte >>= λ b. f (b ∷ []))
bound_one (Ok b) f = refl
bound_one (Err fault) f = refl

-- A write to the item of a target is a write of its one byte.
item_is_byte : ByteItemsAreTheirByte → (e : Exporter) (layout : Layout) (item : ℕ) (v : Value) (lents : List Lent) →
    layout.format ≡ codes "B" → item_set e layout item v lents ≡ single_byte_set e (slice_index layout.starts item) v
item_is_byte bytes e layout item v lents is =
    let after : List ℕ → Result (Exporter × LocalReply) Fault = λ piece. Ok (record e { bytes = bytes_with e.bytes (slice_index layout.starts item) piece }, reply.Ok) in
    ap (λ (r : Result (List ℕ) Fault). r >>= after) (ap (λ (f : List ℕ). piece_by f (snaps_of lents) v) is ∙ bytes (snaps_of lents) v)
    ∙ bound_one (byte_for_item v) after

pub set_as_byte : ByteItemsAreTheirByte → (e : Exporter) (k : ℕ) (key v : Value) (lents : List Lent) (layout : Layout) (place : ℕ) →
    IsStartOfTarget (set_target e k key v) layout place → is_byte_format layout.format ≡ true → set_of_view e k key v lents ≡ single_byte_set e place v
set_as_byte bytes e k key v lents layout place start is =
    ap (λ (t : Result (Layout × ℕ) Fault). t >>= λ target. item_set e target.0 target.1 v lents) start.found
    ∙ item_is_byte bytes e layout start.item v lents (byte_text layout.format is)
    ∙ ap (λ (p : ℕ). single_byte_set e p v) (sym start.starts)
