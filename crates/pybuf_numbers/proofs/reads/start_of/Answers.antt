use Rattle.std.proofs.Common.{ap, ◌≡◌, ◌*◌, arith}
use Rattle.pybuf_numbers.specs.Codes.{size_of}
use Rattle.pybuf_numbers.proofs.CodeLemmas.{start_low, start_high}
use Rattle.pybuf_numbers.proofs.reads.start_of.Goals as goal

pub overflow_mul-result : goal.overflow_mul-result
overflow_mul-result c =
    let same : c.size.result * c.args.place ≡ size_of c.args.code * c.args.place = ap (λ s. s * c.args.place) c.size.ensures in
    omega (arith, start_low c.args.code c.args.bytes.now c.args.place c.requires)

pub returns-clause-start : goal.returns-clause-start
returns-clause-start c = ap (λ s. s * c.args.place) c.size.ensures

pub returns-clause-low : goal.returns-clause-low
returns-clause-low c =
    let same : c.size.result * c.args.place ≡ size_of c.args.code * c.args.place = ap (λ s. s * c.args.place) c.size.ensures in
    omega (arith, start_low c.args.code c.args.bytes.now c.args.place c.requires)

pub returns-clause-high : goal.returns-clause-high
returns-clause-high c there =
    let same : c.size.result * c.args.place ≡ size_of c.args.code * c.args.place = ap (λ s. s * c.args.place) c.size.ensures in
    omega (arith, start_high c.args.code c.args.bytes.now c.args.place there)
