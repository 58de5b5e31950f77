use Rattle.std.proofs.Common.{◌<◌, ◌^◌, length, sym, ap, arith}
use Rattle.pybuf_value.specs.Halting.{outcome_of, refusal_of}
use Rattle.pybuf_bytes.specs.Searching.{or_before}
use Rattle.pybuf_bytes.proofs.RepeatLemmas.{repeated_once}
use Rattle.pybuf_bytes.proofs.inner.PyBytesInner.imul.Goals as goal

pub returns-then-n-eq1-clause-answer : goal.returns-then-n-eq1-clause-answer
returns-then-n-eq1-clause-answer c =
    let small : length c.args.self.now < 2 ^ 63 = omega arith in
    sym (ap (λ wanted. outcome_of (refusal_of wanted)) (repeated_once c.args.n c.args.self.now c.ranges.n c.if-n-eq1.true small))

pub returns-then-n-eq1-clause-bytes : goal.returns-then-n-eq1-clause-bytes
returns-then-n-eq1-clause-bytes c =
    let small : length c.args.self.now < 2 ^ 63 = omega arith in
    sym (ap (or_before c.args.self.now) (repeated_once c.args.n c.args.self.now c.ranges.n c.if-n-eq1.true small))
