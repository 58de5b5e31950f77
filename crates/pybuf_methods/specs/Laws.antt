-- What is promised of every call.
use Rattle.std.specs.Prelude.{◌≡◌, ℕ, false, List, length, Err}
use Rattle.pybuf_value.specs.declared.faults.Fault.TheVariants as fault
use Rattle.pybuf_value.specs.declared.snaps.Snap.{Snap}
use Rattle.pybuf_value.specs.declared.values.Value.{Value}
use Rattle.pybuf_command.specs.declared.methods.MethodName.{MethodName}
use Rattle.pybuf_command.specs.Arity.{takes}
use Rattle.pybuf_methods.specs.Methods.{method_reply}

-- a call with a number of arguments that its method doesn't take is refused with `TypeError`
abbrev pub WrongNumbersAreRefused : Type 0
WrongNumbersAreRefused = (pairs : List (ℕ × Snap)) (bytes : List ℕ) (name : MethodName) (args : List Value) → takes name (length args) ≡ false → method_reply pairs bytes name args ≡ Err fault.Kind
