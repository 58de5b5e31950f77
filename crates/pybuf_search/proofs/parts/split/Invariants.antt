use Rattle.std.proofs.Common.{◌≡◌, ◌++◌, length}
use Rattle.pybuf_search.proofs.parts.split.Given as goal

abbrev pub invariant-parts : goal.invariant-parts
invariant-parts l = l.lists.items ++ l.parts ≡ l.initial.parts

abbrev pub decreases-parts : goal.decreases-parts
decreases-parts l = length l.parts
