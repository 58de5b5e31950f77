-- Python's names of the exceptions, in bytes.
use Rattle.std.specs.Prelude.{ℕ, List, codes}
use Rattle.pybuf_value.specs.declared.faults.Fault.{Fault}
use Rattle.pybuf_value.specs.declared.faults.Fault.TheVariants as fault

abbrev pub python_name_of : Fault → List ℕ
python_name_of fault.Index = codes "IndexError"
python_name_of fault.Value = codes "ValueError"
python_name_of fault.Kind = codes "TypeError"
python_name_of fault.Buffer = codes "BufferError"
python_name_of fault.Struct = codes "StructError"
python_name_of fault.Overflow = codes "OverflowError"
python_name_of fault.NotImplemented = codes "NotImplementedError"
python_name_of fault.UnknownName = codes "UnknownName"
