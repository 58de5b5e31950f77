use Rattle.std.proofs.Common.{◌≡◌, ◌+◌, length}
use Rattle.pybuf_search.proofs.places.number_of_matches.Given as goal

abbrev pub invariant-places : goal.invariant-places
invariant-places l = l.number + length l.places ≡ length l.initial.places

abbrev pub decreases-places : goal.decreases-places
decreases-places l = length l.places
