use Rattle.std.proofs.Common.{◌≡◌, ◌∙◌, ap, ℕ, List, [], ◌∷◌, ◌++◌, take, drop, map, reverse, arith}
use Rattle.std.proofs.lemmas.List.{take_rest}
use Rattle.std.proofs.lemmas.Result.{IfOk-weaker}
use Rattle.std.proofs.lemmas.Bool.Decides.{nat_tests}
use Rattle.pybuf_letters.specs.Classes.{is_blank}
use Rattle.pybuf_letters.specs.Strips.{stripped_right}
use Rattle.pybuf_letters.specs.Blanks.{part_if_any, runs_up_to}
use Rattle.pybuf_letters.proofs.LastRuns.{right_starts, right_goes_on, right_is_done, right_ends}
use Rattle.pybuf_letters.proofs.blanks.cut_from_right.Goals as goal

pub loop-init : goal.loop-init
loop-init c = right_starts c.args.cuts c.args.bytes.now _ _ c.new-parts.ensures.items c.strip_right-rest.ensures

pub returns-then-is_empty : goal.returns-then-is_empty
returns-then-is_empty c =
    c.from_vec.ensures ∙ right_is_done _ c.loop.rest.now _ _ (grind (arith, nat_tests)) c.loop.invariant.0

pub loop-preserved : goal.loop-preserved
loop-preserved c =
    let rest = c.loop.rest.now in
    right_goes_on c.args.cuts c.loop.counter rest _ _ _ _ c.loop-test.true (grind (arith, nat_tests)) c.loop.invariant
    (c.in_ok-push_part.ensures ∙ ap (λ (part : List ℕ). c.loop.parts.items ++ part ∷ [])
    (take_rest rest c.run_start-start.result ∙ ap (λ (n : ℕ). drop n rest) c.run_start-start.ensures.value))
    (c.strip_right-rest-in-loop.ensures ∙ ap (λ (n : ℕ). stripped_right is_blank (take n rest)) c.run_start-start.ensures.value)

pub returns : goal.returns
returns c =
    IfOk-weaker c.with_rest.result
    (λ (made : List (List ℕ)). made ≡ c.loop.parts.items ++ part_if_any c.loop.rest.now)
    (λ (made : List (List ℕ)). made ≡ map reverse (runs_up_to c.args.cuts (reverse c.args.bytes.now)))
    (λ made is. is ∙ right_ends c.args.cuts c.loop.counter c.loop.rest.now c.loop.parts.items _ c.loop-test.false c.loop.invariant)
    c.with_rest.ensures
