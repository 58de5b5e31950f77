use Rattle.std.proofs.Common.{◌≡◌, ◌∙◌, ap, ℕ, List, length, pos, arith, map, reverse}
use Rattle.std.proofs.lemmas.List.{length-reverse}
use Rattle.std.specs.Prelude.{◌<ℤ◌}
use Rattle.std.proofs.lemmas.Int.{ints}
use Rattle.std.proofs.lemmas.Result.{IfOk-weaker}
use Rattle.pybuf_letters.specs.Blanks.{runs_up_to, blank_parts_from_last}
use Rattle.pybuf_letters.proofs.LastRuns.{without_bound_reversed}
use Rattle.pybuf_letters.proofs.blanks.blank_parts_from_last.Goals as goal

pub returns-then-max-lt0 : goal.returns-then-max-lt0
returns-then-max-lt0 c =
    let negative : c.args.max <ℤ pos 0 = omega (arith, ints) in
    IfOk-weaker c.cut_from_right.result
    (λ (made : List (List ℕ)). made ≡ map reverse (runs_up_to (length c.args.bytes.now) (reverse c.args.bytes.now)))
    (λ (made : List (List ℕ)). made ≡ blank_parts_from_last c.args.max c.args.bytes.now)
    (λ made is. is ∙ without_bound_reversed c.args.max c.args.bytes.now negative)
    c.cut_from_right.ensures
