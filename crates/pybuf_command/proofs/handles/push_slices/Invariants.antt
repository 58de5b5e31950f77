use Rattle.std.proofs.Common.{◌≡◌, ◌++◌, take}
use Rattle.std.specs.List.{flat_map}
use Rattle.pybuf_command.specs.Handles.{handles_in_slice}
use Rattle.pybuf_command.proofs.handles.push_slices.Given as goal

abbrev pub invariant-loop-slice : goal.invariant-loop-slice
invariant-loop-slice l = l.handles.items ≡ l.initial.handles.items ++ flat_map handles_in_slice (take l.slice-index l.slices)
