-- Exporters with an unreleased view, whose length may not change.
use Rattle.std.specs.Prelude.{ℕ, ◌+◌, ◌^◌, Bool, Result, length, nat_lt, nat_le}
use Rattle.pybuf_value.specs.declared.faults.Fault.{Fault}
use Rattle.pybuf_value.specs.declared.faults.Fault.TheVariants as fault
use Rattle.pybuf_value.specs.Refusing.{◌>>=◌, unless}
use Rattle.pybuf_state.specs.Exporter.{Exporter, exports_of}

-- whether an exporter has an unreleased view, so that its length must stay
abbrev pub has_exports : Exporter → Bool
has_exports e = nat_lt 0 (exports_of e)

-- a change of the length is refused with `BufferError` exactly then
abbrev pub resizable : Exporter → Result Bool Fault
resizable e = unless (has_exports e) fault.Buffer

-- Taking memory ahead for so many bytes more is refused as a change of the length is, and then with `OverflowError` if
-- with them there were more than `isize::MAX` bytes.
abbrev pub reservable : Exporter → ℕ → Result Bool Fault
reservable e more = do
  _ ← resizable e
  unless (nat_le (2 ^ 63) (length e.bytes + more)) fault.Overflow
