use Rattle.std.proofs.Common.{◌≡◌, ℕ, Bool, List, Result, drop}
use Rattle.std.specs.Fn.{FnReturnsAt}
use Rattle.pybuf_value.specs.declared.faults.Fault.{Fault}
use Rattle.pybuf_search.specs.Affixes.{any_of, IsTested, IsAnyOf}
use Rattle.pybuf_search.proofs.affixes.any_of.Given as goal

-- The values that are left decide as all values do.
abbrev pub invariant-loop-part : goal.invariant-loop-part
invariant-loop-part g l =
    ((test : List ℕ → Bool) → IsTested (goal.F-post g l.predicate) test
    → any_of test (g.L.Lender.pairs l.lender) (drop l.part-index l.parts) ≡ any_of test (g.L.Lender.pairs l.lender) l.parts)
    × ((result : Result Bool Fault) → IsAnyOf (FnReturnsAt g.F.Fn l.predicate) (g.L.Lender.pairs l.lender) (drop l.part-index l.parts) result
    → IsAnyOf (FnReturnsAt g.F.Fn l.predicate) (g.L.Lender.pairs l.lender) l.parts result)
