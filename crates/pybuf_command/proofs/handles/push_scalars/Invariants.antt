use Rattle.std.proofs.Common.{◌≡◌, ◌++◌, take}
use Rattle.std.specs.List.{flat_map}
use Rattle.pybuf_command.specs.Handles.{handles_in_scalar}
use Rattle.pybuf_command.proofs.handles.push_scalars.Given as goal

abbrev pub invariant-loop-scalar : goal.invariant-loop-scalar
invariant-loop-scalar l = l.handles.items ≡ l.initial.handles.items ++ flat_map handles_in_scalar (take l.scalar-index l.scalars)
