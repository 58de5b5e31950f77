use Rattle.std.proofs.Common.{rules}
use Rattle.pybuf_search.specs.Ends.{begins_with}
use Rattle.pybuf_search.proofs.AffixLemmas.{affix_decides}
use Rattle.pybuf_search.proofs.affixes.startswith.Goals as goal

pub returns-in-Some : goal.returns-in-Some
returns-in-Some g c =
    affix_decides begins_with _ _ _ c.in-Some.part.now _ _ c.in-Some.ensures.0 c.in-Some.ensures.1
    (c.single_or_tuple_any.ensures.function (begins_with c.in-Some.part.now) (λ bytes answer says. search rules))
