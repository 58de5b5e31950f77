use Rattle.std.proofs.Common.{◌≡◌, ◌++◌, take, map}
use Rattle.pybuf_struct.specs.Values.{value_in}
use Rattle.pybuf_table.proofs.row_format.push_values.Given as goal

abbrev pub invariant-loop-place : goal.invariant-loop-place
invariant-loop-place l = l.out.items ≡ l.initial.out.items ++ map (value_in l.order l.bytes) (take l.place-index l.places)
