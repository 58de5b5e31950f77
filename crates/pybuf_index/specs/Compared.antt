-- How slices compare: Python compares them as the tuples of their parts.
use Rattle.std.specs.Prelude.{Bool, not, ◌&&◌, Result, Ok, if◌then◌else◌}
use Rattle.std.specs.declared.cmp.Ordering.{Ordering}
use Rattle.std.specs.declared.cmp.Ordering.TheVariants.{Equal}
use Rattle.pybuf_value.specs.declared.faults.Fault.{Fault}
use Rattle.pybuf_value.specs.Refusing.{◌>>=◌}
use Rattle.pybuf_value.specs.declared.values.PySlice.{PySlice}
use Rattle.pybuf_value.specs.declared.values.CompareOp.{CompareOp}
use Rattle.pybuf_value.specs.declared.values.CompareOp.TheVariants as op
use Rattle.pybuf_value.specs.Equality.{same_scalar}
use Rattle.pybuf_value.specs.Order.{order_of_scalars, answers}

-- two slices are equal if their parts are
abbrev pub same_slice : PySlice → PySlice → Bool
same_slice left right = same_scalar left.start right.start && same_scalar left.stop right.stop && same_scalar left.step right.step

-- the order of the first parts that are unequal; if all parts are equal, so are the slices
abbrev pub order_of_slices : PySlice → PySlice → Result Ordering Fault
order_of_slices left right =
    if not (same_scalar left.start right.start) then order_of_scalars left.start right.start
    else if not (same_scalar left.stop right.stop) then order_of_scalars left.stop right.stop
    else if not (same_scalar left.step right.step) then order_of_scalars left.step right.step
    else Ok Equal

-- what an operator answers for two slices
abbrev pub compared_slices : CompareOp → PySlice → PySlice → Result Bool Fault
compared_slices op.Eq left right = Ok (same_slice left right)
compared_slices op.Ne left right = Ok (not (same_slice left right))
compared_slices operator left right = do
  order ← order_of_slices left right
  Ok (answers operator order)
