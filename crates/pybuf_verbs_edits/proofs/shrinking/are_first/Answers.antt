use Rattle.std.proofs.Common.{rules, ◌≡◌, ◌≢◌, ◌<◌, ◌≤◌, ℕ, List, ◌∷◌, length, ap, sym, subst, ◌∙◌, arith, pos, nat_abs}
use Rattle.std.specs.Prelude.{FitsSigned}
use Rattle.std.specs.Int.{w64}
use Rattle.std.proofs.lemmas.Bool.{eqb-true, eq-eqb}
use Rattle.std.proofs.lemmas.Int.{to_z-of_z}
use Rattle.pybuf_index.specs.Parts.{picks_of}
use Rattle.pybuf_verbs_edits.specs.Counting.{AreFirst}
use Rattle.pybuf_verbs_edits.proofs.Taking.{several_first, several_only, head_alone}
use Rattle.pybuf_verbs_edits.proofs.shrinking.are_first.Goals as goal

pub returns-then-span-eq0-clause-first : goal.returns-then-span-eq0-clause-first
returns-then-span-eq0-clause-first c =
    λ one.
    let d = c.adjust_indices-step.ensures in
    let low = c.adjust_indices-step.result.0.start in
    let high = c.adjust_indices-step.result.0.end in
    let step = c.adjust_indices-step.result.1 in
    let moves : step ≢ pos 0 = λ e. d.saturated.moves (sym d.step ∙ e) in
    let fits : FitsSigned w64 step = rw d.step d.saturated.step in
    let size : c.unsigned_abs.result ≡ nat_abs step = c.unsigned_abs.ensures.value ∙ ap nat_abs (to_z-of_z w64 step fits) in
    let several : 1 < c.adjust_indices-step.result.2 = search rules in
    let none : low ≡ 0 = search rules in
    subst (λ (xs : List ℕ). AreFirst (length xs) xs) d.picks
    (several_first c.indices_of_a_span.ensures low high step moves (omega (arith, several, d.count, ap length d.picks)) none (sym size ∙ eqb-true c.unsigned_abs.result 1 one))

pub returns-then-span-eq0-clause-only : goal.returns-then-span-eq0-clause-only
returns-then-span-eq0-clause-only c =
    λ n first.
    let d = c.adjust_indices-step.ensures in
    let low = c.adjust_indices-step.result.0.start in
    let high = c.adjust_indices-step.result.0.end in
    let step = c.adjust_indices-step.result.1 in
    let moves : step ≢ pos 0 = λ e. d.saturated.moves (sym d.step ∙ e) in
    let fits : FitsSigned w64 step = rw d.step d.saturated.step in
    let size : c.unsigned_abs.result ≡ nat_abs step = c.unsigned_abs.ensures.value ∙ ap nat_abs (to_z-of_z w64 step fits) in
    let several : 1 < c.adjust_indices-step.result.2 = search rules in
    eq-eqb c.unsigned_abs.result 1
    (size ∙ (several_only c.indices_of_a_span.ensures low high step n moves (omega (arith, several, d.count, ap length d.picks)) (subst (AreFirst n) (sym d.picks) first)).1)

pub returns-else-span-eq0-clause-only : goal.returns-else-span-eq0-clause-only
returns-else-span-eq0-clause-only c =
    λ n first.
    let d = c.adjust_indices-step.ensures in
    let low = c.adjust_indices-step.result.0.start in
    let high = c.adjust_indices-step.result.0.end in
    let step = c.adjust_indices-step.result.1 in
    let moves : step ≢ pos 0 = λ e. d.saturated.moves (sym d.step ∙ e) in
    let several : 1 < c.adjust_indices-step.result.2 = search rules in
    eq-eqb low 0 (several_only c.indices_of_a_span.ensures low high step n moves (omega (arith, several, d.count, ap length d.picks)) (subst (AreFirst n) (sym d.picks) first)).0

pub returns-in-Some-clause-only : goal.returns-in-Some-clause-only
returns-in-Some-clause-only c =
    λ n first.
    let one : c.adjust_indices-step.result.2 ≤ 1 = search rules in
    let begins : picks_of c.args.len c.args.slice.now ≡ c.in-Some.place ∷ c.next.new.self = search rules in
    eq-eqb c.in-Some.place 0
    (head_alone (picks_of c.args.len c.args.slice.now) c.next.new.self c.in-Some.place n begins (omega (arith, one, c.adjust_indices-step.ensures.count)) first)
