use Rattle.std.proofs.Common.{◌≡◌, ◌++◌, length}
use Rattle.pybuf_shaping.proofs.replacing.places_of.Given as goal

abbrev pub invariant-loop-match : goal.invariant-loop-match
invariant-loop-match l = record {
  whole : l.places.items ++ l.matches ≡ l.initial.matches;
  count : length l.places.items ≡ l._match;
}
