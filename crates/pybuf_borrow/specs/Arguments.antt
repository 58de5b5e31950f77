-- Arguments whose bytes are borrowed.
use Rattle.std.specs.Prelude.{ℕ, List, Result, Ok}
use Rattle.pybuf_value.specs.declared.faults.Fault.{Fault}
use Rattle.pybuf_value.specs.declared.snaps.Snap.{Snap}
use Rattle.pybuf_value.specs.declared.values.Value.{Value}
use Rattle.pybuf_value.specs.Refusing.{◌>>=◌}
use Rattle.pybuf_value.specs.Snaps.{like_in}

-- an argument, and its bytes
pub record BytesArgument : Type 0 where
  pub object : Value
  pub bytes : List ℕ

abbrev pub argument_of : List (ℕ × Snap) → Value → Result BytesArgument Fault
argument_of pairs v = do
  bytes ← like_in pairs v
  Ok (record { object = v; bytes = bytes })
