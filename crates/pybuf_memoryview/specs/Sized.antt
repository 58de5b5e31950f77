-- Formats that items of a size can have, and how many bytes the items of a shape take.
use Rattle.std.specs.Prelude.{ℕ, ◌*◌, ◌==◌, Bool, false, ◌&&◌, List, Result, Ok, Err, nat_lt}
use Rattle.pybuf_value.specs.declared.faults.Fault.{Fault}
use Rattle.pybuf_struct.specs.Formats.{Format, format_of}
use Rattle.pybuf_desc.specs.Layouts.{product}

-- the text of the format can be read, and the format's size is at least 1 and is the item size
abbrev pub is_size_of : ℕ → Result Format Fault → Bool
is_size_of itemsize (Ok format) = nat_lt 0 itemsize && format.size == itemsize
is_size_of itemsize (Err f) = false

abbrev pub is_sized : List ℕ → ℕ → Bool
is_sized format itemsize = is_size_of itemsize (format_of format)

-- how many bytes the items of a shape take
abbrev pub byte_count : ℕ → List ℕ → ℕ
byte_count itemsize shape = itemsize * product shape
