use Rattle.memchr.proofs.lemmas.ValueLemmas.{FindsNeedle-value}
use Rattle.pybuf_search.proofs.PlaceLemmas.{found-fits}
use Rattle.pybuf_search.proofs.places.first_place.Goals as goal

pub returns-clause-value : goal.returns-clause-value
returns-clause-value c = FindsNeedle-value c.args.bytes.now c.args.needle.now c.find.result c.find.ensures

pub returns-clause-inside : goal.returns-clause-inside
returns-clause-inside c = found-fits c.args.bytes.now c.args.needle.now c.find.result c.find.ensures

pub returns-then-bytes-needle-clause-value : goal.returns-then-bytes-needle-clause-value
returns-then-bytes-needle-clause-value c = FindsNeedle-value c.args.bytes.now c.args.needle.now c.whole_place.result c.whole_place.ensures

pub returns-then-bytes-needle-clause-inside : goal.returns-then-bytes-needle-clause-inside
returns-then-bytes-needle-clause-inside c = found-fits c.args.bytes.now c.args.needle.now c.whole_place.result c.whole_place.ensures
