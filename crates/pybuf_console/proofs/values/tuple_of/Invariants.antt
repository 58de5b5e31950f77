use Rattle.std.proofs.Common.{◌≡◌, map, take}
use Rattle.pybuf_value.specs.declared.values.Scalar.TheVariants as scalar
use Rattle.pybuf_console.proofs.values.tuple_of.Given as goal

abbrev pub invariant-loop-number : goal.invariant-loop-number
invariant-loop-number l = l.parts ≡ map scalar.Int (take l.number-index l.numbers)
