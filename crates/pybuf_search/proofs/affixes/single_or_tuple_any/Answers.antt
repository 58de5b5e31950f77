use Rattle.std.specs.Fn.{FnReturnsAt}
use Rattle.pybuf_search.specs.Affixes.{single_or_any_of, IsSingleOrAnyOf}
use Rattle.pybuf_search.proofs.AffixLemmas.{given_outcome}
use Rattle.pybuf_search.proofs.affixes.single_or_tuple_any.Goals as goal

pub returns-clause-function : goal.returns-clause-function
returns-clause-function g c test tested = c.tried.ensures (single_or_any_of test (g.L.Lender.pairs c.args.lender.now) c.args.value.now) (c.single_or_any_of.ensures.function test tested)

pub returns-clause-calls : goal.returns-clause-calls
returns-clause-calls g c =
    given_outcome (IsSingleOrAnyOf (FnReturnsAt g.F.Fn c.args.predicate.now) (g.L.Lender.pairs c.args.lender.now) c.args.value.now)
    _ _ c.tried.ensures c.single_or_any_of.ensures.calls
