use Rattle.pybuf_table.proofs.RowFormatLemmas.{ArePlacesTo}
use Rattle.pybuf_table.proofs.row_format.places_of.Given as goal

abbrev pub invariant-loop-number : goal.invariant-loop-number
invariant-loop-number l = ArePlacesTo l.format l.number l.places.items
