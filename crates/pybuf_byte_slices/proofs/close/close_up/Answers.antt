-- What is left without the indices is what is left without the run that goes up from the least of them.
use Rattle.std.proofs.Common.{◌≡◌, ◌≢◌, ◌<◌, ℤ, pos, ℕ, arith, length, ap, sym, ◌∙◌, to_z, of_z}
use Rattle.std.specs.Prelude.{FitsSigned, nat_abs}
use Rattle.std.specs.Int.{w64}
use Rattle.std.proofs.lemmas.Int.{to_z-of_z}
use Rattle.pybuf_index.specs.Parts.{picks_of}
use Rattle.pybuf_index.specs.Picks.{is_negative}
use Rattle.pybuf_index.specs.Runs.{rising, run_low, picks_in_span}
use Rattle.pybuf_slice.specs.Edits.{elements_off}
use Rattle.pybuf_byte_slices.proofs.CloseLemmas.{last_in_span, off_picks, off_no_picks}
use Rattle.pybuf_byte_slices.proofs.close.close_up.Goals as goal

pub returns-then-count-eq0-clause-list : goal.returns-then-count-eq0-clause-list
returns-then-count-eq0-clause-list c =
    let picks = picks_of (length c.args.bytes.now) c.args.slice in
    let none : 0 ≡ length picks = omega (arith, c.if-count-eq0.true, c.adjust_indices-step.ensures.count) in
    off_no_picks c.args.bytes.now picks c.adjust_indices-step.result.0.start none

pub least_index-low-requires-clause-inside : goal.least_index-low-requires-clause-inside
least_index-low-requires-clause-inside c =
    let adjusted_part = c.adjust_indices-step.ensures in
    let low = c.adjust_indices-step.result.0.start in
    let high = c.adjust_indices-step.result.0.end in
    let step = c.adjust_indices-step.result.1 in
    let count = c.adjust_indices-step.result.2 in
    let moves : step ≢ pos 0 = λ e. adjusted_part.saturated.moves (sym adjusted_part.step ∙ e) in
    let fits : FitsSigned w64 step = rw adjusted_part.step adjusted_part.saturated.step in
    let same : to_z w64 (of_z w64 step) ≡ step = to_z-of_z w64 step fits in
    let same_count : count ≡ length (picks_in_span low high step) = adjusted_part.count ∙ ap length (sym adjusted_part.picks) in
    let some : 0 < count = omega (arith, c.if-count-eq0.false) in
    rw same (last_in_span c.indices_of_a_span.ensures low high step count moves some same_count)

pub returns-clause-list : goal.returns-clause-list
returns-clause-list c =
    let adjusted_part = c.adjust_indices-step.ensures in
    let bytes = c.args.bytes.now in
    let low = c.adjust_indices-step.result.0.start in
    let high = c.adjust_indices-step.result.0.end in
    let step = c.adjust_indices-step.result.1 in
    let count = c.adjust_indices-step.result.2 in
    let least = c.least_index-low.result in
    let moves : step ≢ pos 0 = λ e. adjusted_part.saturated.moves (sym adjusted_part.step ∙ e) in
    let fits : FitsSigned w64 step = rw adjusted_part.step adjusted_part.saturated.step in
    let same : to_z w64 (of_z w64 step) ≡ step = to_z-of_z w64 step fits in
    let same_count : count ≡ length (picks_in_span low high step) = adjusted_part.count ∙ ap length (sym adjusted_part.picks) in
    let first : least ≡ run_low (is_negative step) low high (nat_abs step) count =
    c.least_index-low.ensures.least ∙ ap (λ (z : ℤ). run_low (is_negative z) low high (nat_abs z) count) same in
    let stride : c.unsigned_abs.result ≡ nat_abs step = c.unsigned_abs.ensures.value ∙ ap nat_abs same in
    c.close_between.ensures.list
    ∙ ap (λ (n : ℕ). elements_off bytes (rising least n count)) stride
    ∙ off_picks c.indices_of_a_span.ensures bytes low high step count least moves same_count first
    ∙ ap (elements_off bytes) adjusted_part.picks
