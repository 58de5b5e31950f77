use Rattle.std.proofs.Common.{length, refl, ◌∙◌, arith}
use Rattle.pybuf_equality.proofs.Turned.{lowest, span_inside, turned_run}
use Rattle.pybuf_equality.proofs.pieces.equal_turned.Goals as goal

pub overflow_mul-back : goal.overflow_mul-back
overflow_mul-back c = omega (arith, lowest c.args.start c.args.size c.args.count (length c.args.bytes.now) c.requires.some c.requires.inside, c.ranges.start.fits)

pub returns : goal.returns
returns c = c.equal_spans.ensures ∙ turned_run c.args.bytes.now c.args.other.now c.args.start c.args.other_start c.args.size c.args.count c.requires.some_size c.requires.some c.requires.inside c.requires.other_inside

pub equal_spans-requires-clause-inside : goal.equal_spans-requires-clause-inside
equal_spans-requires-clause-inside c = span_inside c.args.start c.args.size c.args.count (length c.args.bytes.now) _ c.requires.some_size c.requires.some c.requires.inside refl

pub equal_spans-requires-clause-other_inside : goal.equal_spans-requires-clause-other_inside
equal_spans-requires-clause-other_inside c = span_inside c.args.other_start c.args.size c.args.count (length c.args.other.now) _ c.requires.some_size c.requires.some c.requires.other_inside refl
