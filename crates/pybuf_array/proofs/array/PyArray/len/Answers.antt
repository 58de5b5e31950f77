use Rattle.std.proofs.Common.{arith}
use Rattle.pybuf_array.proofs.Sound.{few_numbers}
use Rattle.pybuf_array.proofs.array.PyArray.len.Goals as goal

pub returns-clause-small : goal.returns-clause-small
returns-clause-small c = omega (arith, few_numbers c.self.inside.code c.as_slice-bytes.result.now)
