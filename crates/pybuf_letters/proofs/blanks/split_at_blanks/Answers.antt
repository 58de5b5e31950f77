use Rattle.std.proofs.Common.{◌≡◌, ◌∙◌, ℕ, List, length, pos, arith}
use Rattle.std.specs.Prelude.{◌<ℤ◌}
use Rattle.std.proofs.lemmas.Int.{ints}
use Rattle.std.proofs.lemmas.Result.{IfOk-weaker}
use Rattle.pybuf_letters.specs.Blanks.{runs_up_to, blank_parts}
use Rattle.pybuf_letters.proofs.Runs.{without_bound}
use Rattle.pybuf_letters.proofs.blanks.split_at_blanks.Goals as goal

pub returns-then-max-lt0 : goal.returns-then-max-lt0
returns-then-max-lt0 c =
    let negative : c.args.max <ℤ pos 0 = omega (arith, ints) in
    IfOk-weaker c.cut_from_left.result
    (λ (made : List (List ℕ)). made ≡ runs_up_to (length c.args.bytes.now) c.args.bytes.now)
    (λ (made : List (List ℕ)). made ≡ blank_parts c.args.max c.args.bytes.now)
    (λ made is. is ∙ without_bound c.args.max c.args.bytes.now negative)
    c.cut_from_left.ensures
