-- Calls that give an exporter another number of bytes.
use Rattle.std.specs.Prelude.{◌≡◌, ℕ, List, [], true, Result, Ok, Err}
use Rattle.std.specs.Global.{Vec}
use Rattle.pybuf_value.specs.declared.faults.Fault.{Fault}
use Rattle.pybuf_value.specs.declared.halt.Halt.{Halt}
use Rattle.pybuf_value.specs.declared.halt.Halt.TheVariants as halt
use Rattle.pybuf_state.specs.Exporter.{Exporter}
use Rattle.pybuf_state.specs.Resizing.{resizable, reservable}
use Rattle.pybuf_slice.specs.Edits.{replaced_range}
use Rattle.pybuf_state.specs.declared.parts.Parts.{Parts}
use Rattle.pybuf_exporter.specs.Stored.{StoredExporter, stored_of}

-- The exporter has these bytes afterwards, and all else of it is as before. Where the call is refused, or memory runs
-- out, exporter and room are as before. It is refused exactly while a view is unreleased, with `BufferError`, and
-- memory runs out only where it isn't refused.
abbrev pub TakesBytes : StoredExporter → List ℕ → Result (Unit {0}) Halt → StoredExporter → Type 0
TakesBytes old bytes (Ok _) new = (resizable old.exporter ≡ Ok true) × (new.exporter ≡ record old.exporter { bytes = bytes })
TakesBytes old bytes (Err (halt.Refused f)) new = (resizable old.exporter ≡ Err f) × (new ≡ old)
TakesBytes old bytes (Err halt.NoMemory) new = (resizable old.exporter ≡ Ok true) × (new ≡ old)

-- the same of a call that takes no memory
abbrev pub TakesBytesAtOnce : StoredExporter → List ℕ → Result (Unit {0}) Fault → StoredExporter → Type 0
TakesBytesAtOnce old bytes (Ok _) new = (resizable old.exporter ≡ Ok true) × (new.exporter ≡ record old.exporter { bytes = bytes })
TakesBytesAtOnce old bytes (Err f) new = (resizable old.exporter ≡ Err f) × (new ≡ old)

-- All bytes are handed over, and the exporter has none afterwards, and no room. It is refused exactly while a view is
-- unreleased, with `BufferError`, and nothing is changed then.
abbrev pub TakesAll : StoredExporter → Result (Vec ℕ) Fault → StoredExporter → Type 0
TakesAll old (Ok bytes) new = (resizable old.exporter ≡ Ok true) × (bytes.items ≡ old.exporter.bytes)
    × (new.exporter ≡ record old.exporter { bytes = [] }) × (new.room ≡ 0)
TakesAll old (Err f) new = (resizable old.exporter ≡ Err f) × (new ≡ old)

-- Memory is taken ahead for so many bytes more, and exporter and room are as before in any case. It is refused exactly
-- as `reservable` says, and memory runs out only where it isn't refused.
abbrev pub Reserves : StoredExporter → ℕ → Result (Unit {0}) Halt → StoredExporter → Type 0
Reserves old more (Ok _) new = (reservable old.exporter more ≡ Ok true) × (new ≡ old)
Reserves old more (Err (halt.Refused f)) new = (reservable old.exporter more ≡ Err f) × (new ≡ old)
Reserves old more (Err halt.NoMemory) new = (reservable old.exporter more ≡ Ok true) × (new ≡ old)

-- The exporter stays, and has no room afterwards. It is refused exactly while a view is unreleased, with
-- `BufferError`, and nothing is changed then.
abbrev pub Shrinks : StoredExporter → Result (Unit {0}) Fault → StoredExporter → Type 0
Shrinks old (Ok _) new = (resizable old.exporter ≡ Ok true) × (new.exporter ≡ old.exporter) × (new.room ≡ 0)
Shrinks old (Err f) new = (resizable old.exporter ≡ Err f) × (new ≡ old)

-- ---- the same of the parts that are kept

abbrev pub TakesIn : Parts → List ℕ → Result (Unit {0}) Halt → Parts → Type 0
TakesIn old bytes result new = TakesBytes (stored_of old) bytes result (stored_of new)

abbrev pub TakesInAtOnce : Parts → List ℕ → Result (Unit {0}) Fault → Parts → Type 0
TakesInAtOnce old bytes result new = TakesBytesAtOnce (stored_of old) bytes result (stored_of new)

abbrev pub TakesAllIn : Parts → Result (Vec ℕ) Fault → Parts → Type 0
TakesAllIn old result new = TakesAll (stored_of old) result (stored_of new)

abbrev pub ReservesIn : Parts → ℕ → Result (Unit {0}) Halt → Parts → Type 0
ReservesIn old more result new = Reserves (stored_of old) more result (stored_of new)

abbrev pub ShrinksIn : Parts → Result (Unit {0}) Fault → Parts → Type 0
ShrinksIn old result new = Shrinks (stored_of old) result (stored_of new)

-- ---- what the bytes are afterwards

-- Other bytes, of any number, stand in place of those from one place up to another.
abbrev pub replaced : StoredExporter → ℕ → ℕ → List ℕ → List ℕ
replaced s start end others = replaced_range s.exporter.bytes start end others
