-- An exporter that gets another number of bytes stays whole.
use Rattle.std.proofs.Common.{◌≡◌, ℕ, ◌+◌, ◌^◌, List, [], length, Bool, true, false, true≢false, sym, ap, ap₂, subst, refl, ◌∙◌}
use Rattle.std.specs.Prelude.{Result, Ok, Err, IsOk, nat_le}
use Rattle.std.specs.Global.{Vec}
use Rattle.pybuf_value.specs.declared.faults.Fault.{Fault}
use Rattle.pybuf_value.specs.declared.faults.Fault.TheVariants as fault
use Rattle.pybuf_value.specs.declared.halt.Halt.{Halt}
use Rattle.pybuf_value.specs.declared.halt.Halt.TheVariants as halt
use Rattle.pybuf_value.specs.Refusing.{◌>>=◌, unless}
use Rattle.pybuf_value.specs.Halting.{Answered}
use Rattle.pybuf_command.specs.Kinds.{holds_readonly}
use Rattle.pybuf_state.specs.declared.parts.Parts.{Parts}
use Rattle.pybuf_state.specs.Exporter.{Exporter, exports_of}
use Rattle.pybuf_state.specs.Sound.{IsSoundExporter}
use Rattle.pybuf_state.specs.Resizing.{has_exports, resizable, reservable}
use Rattle.pybuf_state.specs.Laws.{ResizingKeeps}
use Rattle.pybuf_state.specs.Answers.{exporter_of, IsWhole}
use Rattle.pybuf_exporter.specs.Stored.{StoredExporter, stored_of}
use Rattle.pybuf_exporter.specs.Lengths.{TakesBytes, TakesBytesAtOnce, TakesAll, ReservesIn}

free_where : (b : Bool) (f : Fault) → unless b f ≡ Ok true → b ≡ false
free_where true f is = absurd (cc)
free_where false f is = refl

-- parts that keep the same exporter and the same count are as whole
as_whole : (old new : Parts) → IsWhole old → new.exports ≡ old.exports → stored_of new ≡ stored_of old → IsWhole new
as_whole old new whole count same = record {
  counted = count ∙ whole.counted ∙ sym (ap (λ (s : StoredExporter). exports_of s.exporter) same);
  sound = subst (λ (s : StoredExporter). IsSoundExporter s.exporter) (sym same) whole.sound;
}

-- parts whose exporter got other bytes are whole
still_whole : ResizingKeeps → (old new : Parts) (bytes : List ℕ) → holds_readonly old.kind ≡ false → IsWhole old → new.exports ≡ old.exports → resizable (exporter_of old) ≡ Ok true → exporter_of new ≡ record (exporter_of old) { bytes = bytes } → IsWhole new
still_whole keeps old new bytes writable whole count free same = record {
  counted = count ∙ whole.counted ∙ sym (ap exports_of same);
  sound = subst IsSoundExporter (sym same) (keeps (exporter_of old) bytes whole.sound (free_where (has_exports (exporter_of old)) fault.Buffer free) writable).sound;
}

pub whole_after : ResizingKeeps → (old new : Parts) (bytes : List ℕ) (r : Result (Unit {0}) Halt) → holds_readonly old.kind ≡ false → IsWhole old → new.exports ≡ old.exports → TakesBytes (stored_of old) bytes r (stored_of new) → IsWhole new
whole_after keeps old new bytes (Ok _) writable whole count is = still_whole keeps old new bytes writable whole count is.0 is.1
whole_after keeps old new bytes (Err (halt.Refused f)) writable whole count is = as_whole old new whole count is.1
whole_after keeps old new bytes (Err halt.NoMemory) writable whole count is = as_whole old new whole count is.1

pub whole_at_once : ResizingKeeps → (old new : Parts) (bytes : List ℕ) (r : Result (Unit {0}) Fault) → holds_readonly old.kind ≡ false → IsWhole old → new.exports ≡ old.exports → TakesBytesAtOnce (stored_of old) bytes r (stored_of new) → IsWhole new
whole_at_once keeps old new bytes (Ok _) writable whole count is = still_whole keeps old new bytes writable whole count is.0 is.1
whole_at_once keeps old new bytes (Err f) writable whole count is = as_whole old new whole count is.1

-- parts whose bytes were handed over are whole
pub whole_taken : ResizingKeeps → (old new : Parts) (r : Result (Vec ℕ) Fault) → holds_readonly old.kind ≡ false → IsWhole old → new.exports ≡ old.exports → TakesAll (stored_of old) r (stored_of new) → IsWhole new
whole_taken keeps old new (Ok bytes) writable whole count is = still_whole keeps old new [] writable whole count is.0 is.2
whole_taken keeps old new (Err f) writable whole count is = as_whole old new whole count is.1

-- and so are those that keep their exporter, whatever their room
pub whole_kept : (old new : Parts) → IsWhole old → new.exports ≡ old.exports → exporter_of new ≡ exporter_of old → IsWhole new
whole_kept old new whole count same = record {
  counted = count ∙ whole.counted ∙ sym (ap exports_of same);
  sound = subst IsSoundExporter (sym same) whole.sound;
}

-- ---- memory that is taken ahead

passed : (b c : Bool) (f g : Fault) → IsOk (unless b f >>= (λ _. unless c g)) → (unless b f >>= (λ _. unless c g)) ≡ Ok true
passed true c f g ok = absurd (true≢false (sym ok))
passed false true f g ok = absurd (true≢false (sym ok))
passed false false f g ok = refl

same_stored : (old new : Parts) → exporter_of new ≡ exporter_of old → new.bytes.room ≡ old.bytes.room → stored_of new ≡ stored_of old
same_stored old new exporters rooms = ap₂ (λ (e : Exporter) (room : ℕ). record { exporter = e; room = room }) exporters rooms

pub reserves_in : (old new : Parts) (more : ℕ) (r : Result (Unit {0}) Halt) → Answered r (λ _. true) (reservable (exporter_of old) more) → (r ≡ Err halt.NoMemory → IsOk (reservable (exporter_of old) more)) → exporter_of new ≡ exporter_of old → new.bytes.room ≡ old.bytes.room → ReservesIn old more r new
reserves_in old new more (Ok _) answer memory exporters rooms = (answer, same_stored old new exporters rooms)
reserves_in old new more (Err (halt.Refused f)) answer memory exporters rooms = (answer, same_stored old new exporters rooms)
reserves_in old new more (Err halt.NoMemory) answer memory exporters rooms =
    (passed (has_exports (exporter_of old)) (nat_le (2 ^ 63) (length (exporter_of old).bytes + more)) fault.Buffer fault.Overflow (memory refl), same_stored old new exporters rooms)
