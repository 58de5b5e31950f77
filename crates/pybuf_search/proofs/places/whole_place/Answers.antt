use Rattle.std.proofs.Common.{sym, ◌∙◌}
use Rattle.pybuf_search.proofs.PlaceLemmas.{whole_alone, same_by_test}
use Rattle.pybuf_search.proofs.places.whole_place.Goals as goal

pub returns-else-eq : goal.returns-else-eq
returns-else-eq c = λ k low high stands.
    let same = whole_alone c.args.bytes.now c.args.needle.now k c.requires stands in
    cc (sym c.if-eq.false ∙ (c.eq.ensures ∙ same_by_test c.args.bytes.now c.args.needle.now same))
