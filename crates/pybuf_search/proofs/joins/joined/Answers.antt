use Rattle.std.proofs.Common.{◌≡◌, ℕ, List, subst, map-id}
use Rattle.std.specs.Prelude.{IfOk}
use Rattle.bstr.specs.Owned as owned
use Rattle.pybuf_value.specs.Halting.{outcome_of, items_of}
use Rattle.pybuf_value.specs.Texts.{fitted}
use Rattle.pybuf_search.proofs.joins.joined.Goals as goal

-- The bytes of each part are the part.
pub returns : goal.returns
returns c =
    subst (λ (parts : List (List ℕ)). IfOk c.joined_parts.result (λ outcome. items_of outcome ≡ outcome_of (fitted (owned.joined c.args.separator.now parts)))) (map-id c.args.parts.now) c.joined_parts.ensures
