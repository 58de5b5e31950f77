use Rattle.std.proofs.Common.{◌≡◌, ◌++◌, take}
use Rattle.std.specs.List.{flat_map}
use Rattle.pybuf_command.specs.Handles.{handles_in}
use Rattle.pybuf_command.proofs.handles.push_values.Given as goal

abbrev pub invariant-loop-value : goal.invariant-loop-value
invariant-loop-value l = l.handles.items ≡ l.initial.handles.items ++ flat_map handles_in (take l.value-index l.values)
