-- A step of 1, up or down, picks a whole range. It doesn't matter in which order the indices stand.
use Rattle.std.proofs.Common.{◌≡◌, ◌≢◌, ◌⊎◌, ◌<◌, ◌≤◌, pos, negsuc, length, ap, sym, ◌∙◌, inl, inr, of_z}
use Rattle.std.specs.Prelude.{FitsSigned, reverse}
use Rattle.std.proofs.lemmas.Int.{to_z-of_z}
use Rattle.std.specs.Int.{w64}
use Rattle.std.proofs.lemmas.List.Elements.{All-same}
use Rattle.pybuf_slice.specs.Facts.{has_reverse}
use Rattle.pybuf_index.specs.Parts.{picks_of}
use Rattle.pybuf_index.specs.Runs.{picks_in_span}
use Rattle.pybuf_slice.specs.Edits.{elements_off}
use Rattle.pybuf_slice.proofs.ReadLemmas.{one_from_bits, less_one_from_bits}
use Rattle.pybuf_slice.proofs.EditLemmas.{off_range, off_same, all_reverse}
use Rattle.pybuf_slice.proofs.edits.close_up.Goals as goal
use Rattle.pybuf_slice.proofs.edits.close_up.Goals.{then-step-eq1-via-then-step-eq1, then-step-eq1-via-else-step-eq1+then-step}

pub returns-then-step-eq1-clause-list : goal.returns-then-step-eq1-clause-list
returns-then-step-eq1-clause-list g c =
    let adjusted_part = c.adjust_indices-step.ensures in
    let step = c.adjust_indices-step.result.1 in
    let whole : (step ≡ pos 1) ⊎ (step ≡ negsuc 0) =
    elim c.then-step-eq1.branch [
      | then-step-eq1-via-then-step-eq1 w ↦
          inl (adjusted_part.step ∙ one_from_bits c.args.slice.step adjusted_part.saturated.step (ap (of_z w64) (sym adjusted_part.step) ∙ w.if-step-eq1.true))
      | then-step-eq1-via-else-step-eq1+then-step w ↦
          inr (adjusted_part.step ∙ less_one_from_bits c.args.slice.step adjusted_part.saturated.step (ap (of_z w64) (sym adjusted_part.step) ∙ w.if-step.true))
    ] in
    off_range c.indices_of_a_span.ensures c.args.items.now c.adjust_indices-step.result.0.start c.adjust_indices-step.result.0.end step whole adjusted_part.ordered adjusted_part.within
    ∙ ap (elements_off c.args.items.now) adjusted_part.picks

pub close_up_indexes-kept-requires-clause-within : goal.close_up_indexes-kept-requires-clause-within
close_up_indexes-kept-requires-clause-within g c =
    let adjusted_part = c.adjust_indices-step.ensures in
    let low = c.adjust_indices-step.result.0.start in
    let high = c.adjust_indices-step.result.0.end in
    let step = c.adjust_indices-step.result.1 in
    let moves : step ≢ pos 0 = λ e. adjusted_part.saturated.moves (sym adjusted_part.step ∙ e) in
    let inside = (c.indices_of_a_span.ensures low high step moves).within in
    let fits : FitsSigned w64 step = rw adjusted_part.step adjusted_part.saturated.step in
    let from : c.from_adjust_indices-indexes.result ≡ picks_in_span low high step = c.from_adjust_indices-indexes.ensures ∙ ap (picks_in_span low high) (to_z-of_z w64 step fits) in
    elim c.positive_order.ensures.same [
      | inl same ↦ All-same (λ i. (low ≤ i) × (i < high)) c.positive_order.result (picks_in_span low high step) (same ∙ from) inside
      | inr turned ↦ All-same (λ i. (low ≤ i) × (i < high)) c.positive_order.result (reverse (picks_in_span low high step)) (turned ∙ ap reverse from)
          (all_reverse (λ i. (low ≤ i) × (i < high)) (picks_in_span low high step) inside)
    ]

pub returns-clause-list : goal.returns-clause-list
returns-clause-list g c =
    let adjusted_part = c.adjust_indices-step.ensures in
    let items = c.args.items.now in
    let picks = picks_of (length items) c.args.slice in
    let low = c.adjust_indices-step.result.0.start in
    let high = c.adjust_indices-step.result.0.end in
    let step = c.adjust_indices-step.result.1 in
    let fits : FitsSigned w64 step = rw adjusted_part.step adjusted_part.saturated.step in
    let from : c.from_adjust_indices-indexes.result ≡ picks =
    c.from_adjust_indices-indexes.ensures ∙ ap (picks_in_span low high) (to_z-of_z w64 step fits) ∙ adjusted_part.picks in
    c.close_up_indexes-kept.ensures.list
    ∙ elim c.positive_order.ensures.same [
      | inl same ↦ ap (elements_off items) (same ∙ from)
      | inr turned ↦ ap (elements_off items) (turned ∙ ap reverse from) ∙ off_same items 0 (reverse picks) picks (has_reverse picks)
    ]
