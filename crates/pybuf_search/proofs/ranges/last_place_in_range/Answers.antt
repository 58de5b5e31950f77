use Rattle.std.proofs.Common.{rules}
use Rattle.pybuf_search.specs.Places.{last_place}
use Rattle.pybuf_search.proofs.ranges.last_place_in_range.Goals as goal

pub returns : goal.returns
returns c = c.place_in_range.ensures.function last_place (λ part needle answer says. search rules)
