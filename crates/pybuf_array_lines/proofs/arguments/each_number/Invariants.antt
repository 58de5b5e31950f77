use Rattle.std.proofs.Common.{◌≡◌, drop}
use Rattle.pybuf_array_lines.specs.Arguments.{each_number}
use Rattle.pybuf_array_lines.proofs.Numbers.{onto}
use Rattle.pybuf_array_lines.proofs.arguments.each_number.Given as goal

abbrev pub invariant-loop-part : goal.invariant-loop-part
invariant-loop-part l = each_number l.parts ≡ onto l.numbers.items (each_number (drop l.part-index l.parts))
