-- Items of the format `B`, as the code writes them.
use Rattle.std.specs.Prelude.{ℕ, Result}
use Rattle.pybuf_value.specs.declared.faults.Fault.{Fault}
use Rattle.pybuf_value.specs.declared.values.Value.{Value}
use Rattle.pybuf_value.specs.Numbers.{byte_in}
use Rattle.pybuf_memoryview.specs.Items.{kind_fault}

-- the byte that an item of the format `B` is written as
abbrev pub byte_for_item : Value → Result ℕ Fault
byte_for_item v = kind_fault (byte_in v)
