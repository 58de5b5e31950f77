use Rattle.std.proofs.Common.{◌^◌}
use Rattle.pybuf_numbers.proofs.Walking.{chosen_one, chosen_more, chosen_more_below}
use Rattle.pybuf_numbers.proofs.runs.IndexRun.chosen.Goals as goal

pub returns-then-places-eq1-clause-indices : goal.returns-then-places-eq1-clause-indices
returns-then-places-eq1-clause-indices c =
    let r = c.args.self.now in
    let p = c.args.places.now in
    chosen_one r.falls p.falls r.start r.stride r.count p.start p.stride p.count (2 ^ 63) c.at-start.result c.requires.inside c.requires.places c.at-start.ensures.walk c.if-places-eq1.true

pub returns-clause-indices : goal.returns-clause-indices
returns-clause-indices c =
    let r = c.args.self.now in
    let p = c.args.places.now in
    chosen_more r.falls p.falls _ r.start r.stride r.count p.start p.stride p.count (2 ^ 63) c.at-start.result c.requires.inside c.requires.places c.at-start.ensures.walk c.differ.ensures

pub returns-clause-inside : goal.returns-clause-inside
returns-clause-inside c n below =
    let r = c.args.self.now in
    let p = c.args.places.now in
    chosen_more_below r.falls p.falls _ r.start r.stride r.count p.start p.stride p.count n c.at-start.result below c.requires.places c.at-start.ensures.walk c.differ.ensures
