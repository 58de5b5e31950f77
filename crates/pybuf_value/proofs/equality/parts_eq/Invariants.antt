use Rattle.std.proofs.Common.{◌≡◌, drop}
use Rattle.pybuf_value.specs.Equality.{same_parts}
use Rattle.pybuf_value.proofs.equality.parts_eq.Given as goal

abbrev pub invariant-loop-place : goal.invariant-loop-place
invariant-loop-place l = same_parts (drop l.place l.left) (drop l.place l.right) ≡ same_parts l.left l.right
