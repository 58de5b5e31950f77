-- Numbers in a bytearray, and the views of them that are out.
use Rattle.std.specs.Prelude.{◌≡◌, ◌+◌, ◌*◌, ◌≤◌, ℕ, Bool, true, false, List, [], ◌∷◌, length, map, Contains, Some, slice_get}
use Rattle.pybuf_value.specs.declared.faults.Fault.{Fault}
use Rattle.pybuf_value.specs.declared.faults.Fault.TheVariants as fault
use Rattle.pybuf_desc.specs.Layouts.{bytes_layout}
use Rattle.pybuf_command.specs.declared.kinds.ExporterKind.TheVariants as kinds
use Rattle.pybuf_state.specs.Exporter.{Exporter, is_exported}
use Rattle.pybuf_state.specs.Live.{is_live, layout_of}

-- The numbers, in order, and whether each view that was lent is still out, which means that it wasn't given
-- back.
pub record Numbers : Type 0 where
  pub numbers : List ℕ
  pub out : List Bool

abbrev pub no_numbers : Numbers
no_numbers = record { numbers = []; out = [] }

-- Some view is out.
abbrev pub IsLent : Numbers → Type 0
IsLent a = Contains a.out true

-- The view that has this number was lent, and is out.
abbrev pub IsOut : Numbers → ℕ → Type 0
IsOut a view = slice_get a.out view ≡ Some true

-- Why no number is written at an index through a view. The view was never lent, or it was given back, or it is
-- out and there is no number at the index.
abbrev pub IsNotWritten : Numbers → ℕ → ℕ → Fault → Type 0
IsNotWritten a view index fault.UnknownName = length a.out ≤ view
IsNotWritten a view index fault.Value = slice_get a.out view ≡ Some false
IsNotWritten a view index fault.Index = IsOut a view × (length a.numbers ≤ index)
IsNotWritten a view index _ = ⊥

-- the numbers that bytes spell: two bytes each, the low one first
abbrev pub numbers_of : List ℕ → List ℕ
numbers_of (low ∷ high ∷ bytes) = (low + 256 * high) ∷ numbers_of bytes
numbers_of _ = []

-- the numbers of an exporter, and which of its views are out
abbrev pub numbers_in : Exporter → Numbers
numbers_in e = record { numbers = numbers_of e.bytes; out = map is_exported e.views }

-- What holds of the exporter of an array. Each view that is out shows all its bytes.
pub record IsNumberArray (e : Exporter) : Type 0 where
  pub kind : e.kind ≡ kinds.ByteArray
  pub pairs : length e.bytes ≡ 2 * length (numbers_of e.bytes)
  pub whole : (view : ℕ) → is_live e view ≡ true → layout_of e view ≡ bytes_layout (length e.bytes) false
