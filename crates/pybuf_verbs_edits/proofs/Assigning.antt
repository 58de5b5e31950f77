-- As many bytes replace those that a slice picks.
use Rattle.std.proofs.Common.{◌≡◌, ℕ, ◌-◌, ◌≤◌, ℤ, pos, List, length, take, drop, ap, sym, ◌∙◌, arith, length-take, length-drop}
use Rattle.pybuf_index.specs.Runs.{picks_in_span}
use Rattle.pybuf_verbs_edits.proofs.Still.{span_long}

-- The range that a step of 1 picks is as long as the list of its indices.
pub range_long : (places picked : List ℕ) (start end many : ℕ) (step : ℤ) → step ≡ pos 1 → start ≤ end → end ≤ length places → picks_in_span start end step ≡ picked → length picked ≡ many
    → length (take (end - start) (drop start places)) ≡ many
range_long places picked start end many step one order inside same count =
    let spans : length picked ≡ end - start = ap (λ (xs : List ℕ). length xs) (sym same) ∙ ap (λ (s : ℤ). length (picks_in_span start end s)) one ∙ span_long start end order in
    omega (arith, spans, count, order, inside, length-take (end - start) (drop start places), length-drop start places)
