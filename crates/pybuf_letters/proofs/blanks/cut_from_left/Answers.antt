use Rattle.std.proofs.Common.{◌≡◌, ◌∙◌, ap, ℕ, List, [], ◌∷◌, ◌++◌, take, drop, arith}
use Rattle.std.proofs.lemmas.List.{take_rest}
use Rattle.std.proofs.lemmas.Result.{IfOk-weaker}
use Rattle.std.proofs.lemmas.Bool.Decides.{nat_tests}
use Rattle.pybuf_letters.specs.Blanks.{next_run, part_if_any, runs_up_to}
use Rattle.pybuf_letters.proofs.Runs.{left_starts, left_goes_on, left_is_done, left_ends}
use Rattle.pybuf_letters.proofs.blanks.cut_from_left.Goals as goal

pub loop-init : goal.loop-init
loop-init c = left_starts c.args.cuts c.args.bytes.now _ _ c.new-parts.ensures.items c.strip_left-rest.ensures

pub returns-then-is_empty : goal.returns-then-is_empty
returns-then-is_empty c =
    c.from_vec.ensures ∙ left_is_done _ c.loop.rest.now _ _ (grind (arith, nat_tests)) c.loop.invariant.0

pub loop-preserved : goal.loop-preserved
loop-preserved c =
    let rest = c.loop.rest.now in
    left_goes_on c.args.cuts c.loop.counter rest _ _ _ _ c.loop-test.true (grind (arith, nat_tests)) c.loop.invariant
    (c.in_ok-push_part.ensures ∙ ap (λ (n : ℕ). c.loop.parts.items ++ take n rest ∷ []) c.run_end-end.ensures.value)
    (c.strip_left-rest-in-loop.ensures ∙ ap next_run (take_rest rest c.run_end-end.result ∙ ap (λ (n : ℕ). drop n rest) c.run_end-end.ensures.value))

pub returns : goal.returns
returns c =
    IfOk-weaker c.with_rest.result
    (λ (made : List (List ℕ)). made ≡ c.loop.parts.items ++ part_if_any c.loop.rest.now)
    (λ (made : List (List ℕ)). made ≡ runs_up_to c.args.cuts c.args.bytes.now)
    (λ made is. is ∙ left_ends c.args.cuts c.loop.counter c.loop.rest.now c.loop.parts.items _ c.loop-test.false c.loop.invariant)
    c.with_rest.ensures
