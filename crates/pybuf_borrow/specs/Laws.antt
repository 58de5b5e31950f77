-- What a write through a borrow changes, and which arguments are refused.
use Rattle.std.specs.Prelude.{◌≡◌, ℕ, ◌+◌, List, length, take, drop, slice_index, true, false, None, Err}
use Rattle.pybuf_value.specs.declared.faults.Fault.TheVariants as fault
use Rattle.pybuf_value.specs.declared.snaps.Snap.{Snap}
use Rattle.pybuf_value.specs.declared.values.Scalar.TheVariants as scalar
use Rattle.pybuf_value.specs.declared.values.Value.TheVariants as value
use Rattle.pybuf_value.specs.Snaps.{snap_of}
use Rattle.pybuf_command.specs.declared.kinds.Subject.{Subject}
use Rattle.pybuf_command.specs.declared.kinds.Subject.TheVariants as subject
use Rattle.pybuf_state.specs.Exporter.{Exporter, has_subject}
use Rattle.pybuf_state.specs.Sound.{IsSoundExporter}
use Rattle.pybuf_state.specs.Live.{layout_of}
use Rattle.pybuf_borrow.specs.Arguments.{argument_of}
use Rattle.pybuf_borrow.specs.Texts.{text_or_bytes, ascii_or_bytes}
use Rattle.pybuf_borrow.specs.Writable.{asked_to_write, is_writable, lent_bytes, written_through}

-- where the bytes that are lent begin in the exporter
abbrev pub first_lent : Exporter → Subject → ℕ
first_lent e subject.Own = 0
first_lent e (subject.View k) = slice_index (layout_of e k).starts 0
first_lent e (subject.Iter k) = 0

-- What was written can be read back through the subject. The exporter's bytes before and behind those that were
-- lent stay, and so does their number.
pub record ChangesTheLentBytesAlone (e : Exporter) (s : Subject) (bytes : List ℕ) : Type 0 where
  pub read_back : lent_bytes (written_through e s bytes) s ≡ bytes
  pub before : take (first_lent e s) (written_through e s bytes).bytes ≡ take (first_lent e s) e.bytes
  pub behind : drop (first_lent e s + length bytes) (written_through e s bytes).bytes ≡ drop (first_lent e s + length bytes) e.bytes
  pub count : length (written_through e s bytes).bytes ≡ length e.bytes

-- This holds if as many bytes are written as were lent.
abbrev pub BorrowsChangeTheLentBytesAlone : Type 0
BorrowsChangeTheLentBytesAlone =
    (e : Exporter) (s : Subject) (bytes : List ℕ) → IsSoundExporter e → is_writable e s ≡ true → length bytes ≡ length (lent_bytes e s) → ChangesTheLentBytesAlone e s bytes

-- Handles that the lender has no snap of are refused with `UnknownName`. This holds for bytes (`bytes`), for a
-- text or bytes (`text`), and for a text of ASCII or bytes (`ascii`). A view or an iterator that was never
-- given is refused too, if it is borrowed to be written (`subjects`).
pub record UnknownArgumentsAreRefused : Type 0 where
  pub bytes : (pairs : List (ℕ × Snap)) (handle : ℕ) → snap_of pairs handle ≡ None → argument_of pairs (value.One (scalar.Handle handle)) ≡ Err fault.UnknownName
  pub text : (pairs : List (ℕ × Snap)) (handle : ℕ) → snap_of pairs handle ≡ None → text_or_bytes pairs (value.One (scalar.Handle handle)) ≡ Err fault.UnknownName
  pub ascii : (pairs : List (ℕ × Snap)) (handle : ℕ) → snap_of pairs handle ≡ None → ascii_or_bytes pairs (value.One (scalar.Handle handle)) ≡ Err fault.UnknownName
  pub subjects : (e : Exporter) (s : Subject) → has_subject e s ≡ false → asked_to_write e s ≡ Err fault.UnknownName
