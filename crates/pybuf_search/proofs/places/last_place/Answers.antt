use Rattle.memchr.proofs.lemmas.ValueLemmas.{FindsLastNeedle-value}
use Rattle.pybuf_search.proofs.PlaceLemmas.{found-last-fits}
use Rattle.pybuf_search.proofs.places.last_place.Goals as goal

pub returns-clause-value : goal.returns-clause-value
returns-clause-value c = FindsLastNeedle-value c.args.bytes.now c.args.needle.now c.rfind.result c.rfind.ensures

pub returns-clause-inside : goal.returns-clause-inside
returns-clause-inside c = found-last-fits c.args.bytes.now c.args.needle.now c.rfind.result c.rfind.ensures
