use Rattle.std.proofs.Common.{rules, ◌≡◌, ◌<◌, ℕ, List, length, ap, subst, ◌∙◌, refl, arith, Ok, true}
use Rattle.pybuf_index.specs.Parts.{saturated_parts_of, picks_of}
use Rattle.pybuf_state.specs.Answers.{exporter_of}
use Rattle.pybuf_state.specs.Resizing.{resizable}
use Rattle.pybuf_verbs_edits.specs.Counting.{AreFirst}
use Rattle.pybuf_verbs_edits.proofs.Fronts.{first_inside, first_count, all_has}
use Rattle.pybuf_verbs_edits.proofs.Taking.{sliced_first, sliced_gone}
use Rattle.pybuf_verbs_edits.proofs.shrinking.delete_slice.Goals as goal

pub remove_range-requires-clause-inside : goal.remove_range-requires-clause-inside
remove_range-requires-clause-inside g c =
    let e = exporter_of c.args.parts.now in
    let parts = c.in_ok-slice.slice in
    let places : List ℕ = picks_of (length e.bytes) parts in
    let first : AreFirst (length places) places = subst (λ (m : ℕ). AreFirst (length (picks_of m parts)) (picks_of m parts)) c.len-2.ensures.value (c.are_first.ensures.first c.if-are_first.true) in
    let counted : c.adjust_indices-step.result.2 ≡ length places = c.adjust_indices-step.ensures.count ∙ ap (λ (m : ℕ). length (picks_of m parts)) c.len.ensures.value in
    let within = (c.indices_of_a_slice.ensures (length e.bytes) parts.start parts.stop parts.step c.adjust_indices-step.ensures.saturated.moves).inside in
    omega (arith, counted, first_inside (length places) (length e.bytes) places (λ q on. all_has (λ i. i < length e.bytes) places q within on) first)

pub returns-then-are_first-clause-answer : goal.returns-then-are_first-clause-answer
returns-then-are_first-clause-answer g c =
    let e = exporter_of c.args.parts.now in
    let parts = c.in_ok-slice.slice in
    let places : List ℕ = picks_of (length e.bytes) parts in
    let first : AreFirst (length places) places = subst (λ (m : ℕ). AreFirst (length (picks_of m parts)) (picks_of m parts)) c.len-2.ensures.value (c.are_first.ensures.first c.if-are_first.true) in
    let counted : c.adjust_indices-step.result.2 ≡ length places = c.adjust_indices-step.ensures.count ∙ ap (λ (m : ℕ). length (picks_of m parts)) c.len.ensures.value in
    let parsed : saturated_parts_of c.args.slice.now ≡ Ok parts = search rules in
    let free : resizable e ≡ Ok true = search rules in
    sliced_gone e (exporter_of c.remove_range.new.self) c.args.slice.now parts c.adjust_indices-step.result.2 parsed free counted first c.remove_range.ensures.same

pub returns-then-are_first-clause-paid : goal.returns-then-are_first-clause-paid
returns-then-are_first-clause-paid g c =
    let e = exporter_of c.args.parts.now in
    let parts = c.in_ok-slice.slice in
    let places : List ℕ = picks_of (length e.bytes) parts in
    let counted : c.adjust_indices-step.result.2 ≡ length places = c.adjust_indices-step.ensures.count ∙ ap (λ (m : ℕ). length (picks_of m parts)) c.len.ensures.value in
    let parsed : saturated_parts_of c.args.slice.now ≡ Ok parts = search rules in
    record {
      few = omega (arith, c.remove_range.ensures.counter);
      front_room = λ n taken.
          let many : length places ≡ n = first_count n places (sliced_first (length e.bytes) (saturated_parts_of c.args.slice.now) parts n parsed taken) in
          omega (arith, c.remove_range.ensures.front_room refl, counted, many);
      front_counter = λ n taken. c.remove_range.ensures.front_counter refl;
      err_room = tt;
      err_counter = tt;
    }
