use Rattle.std.proofs.Common.{◌∙◌, sym, subst, ℤ, FitsSigned, to_z, of_z, w64}
use Rattle.std.proofs.lemmas.Int.{to_z-of_z}
use Rattle.pybuf_index.specs.Parts.{picks_of}
use Rattle.pybuf_numbers.proofs.Walking.{code_rises, code_falls}
use Rattle.pybuf_numbers.proofs.runs.IndexRun.of_slice.Goals as goal

pub returns-then-step-lt0-clause-indices : goal.returns-then-step-lt0-clause-indices
returns-then-step-lt0-clause-indices c =
    let made = c.adjust_indices-step.ensures in
    let r = c.adjust_indices-step.result in
    (code_falls r.0.start r.0.end r.2 c.args.count c.unsigned_abs-stride.result r.1 (to_z w64 (of_z w64 r.1)) (picks_of c.args.count c.args.slice.now) made.picks made.count
    (c.indices_of_a_span.ensures r.0.start r.0.end r.1 (λ none. made.saturated.moves (sym made.step ∙ none))) made.within c.if-picks-eq0.false
    (to_z-of_z w64 r.1 (subst (λ (z : ℤ). FitsSigned w64 z) (sym made.step) made.saturated.step)) c.unsigned_abs-stride.ensures.value c.if-step-lt0.true).list

pub returns-then-step-lt0-clause-inside : goal.returns-then-step-lt0-clause-inside
returns-then-step-lt0-clause-inside c =
    let made = c.adjust_indices-step.ensures in
    let r = c.adjust_indices-step.result in
    (code_falls r.0.start r.0.end r.2 c.args.count c.unsigned_abs-stride.result r.1 (to_z w64 (of_z w64 r.1)) (picks_of c.args.count c.args.slice.now) made.picks made.count
    (c.indices_of_a_span.ensures r.0.start r.0.end r.1 (λ none. made.saturated.moves (sym made.step ∙ none))) made.within c.if-picks-eq0.false
    (to_z-of_z w64 r.1 (subst (λ (z : ℤ). FitsSigned w64 z) (sym made.step) made.saturated.step)) c.unsigned_abs-stride.ensures.value c.if-step-lt0.true).below

pub returns-clause-indices : goal.returns-clause-indices
returns-clause-indices c =
    let made = c.adjust_indices-step.ensures in
    let r = c.adjust_indices-step.result in
    (code_rises r.0.start r.0.end r.2 c.args.count c.unsigned_abs-stride.result r.1 (to_z w64 (of_z w64 r.1)) (picks_of c.args.count c.args.slice.now) made.picks made.count
    (c.indices_of_a_span.ensures r.0.start r.0.end r.1 (λ none. made.saturated.moves (sym made.step ∙ none))) made.within c.if-picks-eq0.false
    (to_z-of_z w64 r.1 (subst (λ (z : ℤ). FitsSigned w64 z) (sym made.step) made.saturated.step)) c.unsigned_abs-stride.ensures.value c.if-step-lt0.false).list

pub returns-clause-inside : goal.returns-clause-inside
returns-clause-inside c =
    let made = c.adjust_indices-step.ensures in
    let r = c.adjust_indices-step.result in
    (code_rises r.0.start r.0.end r.2 c.args.count c.unsigned_abs-stride.result r.1 (to_z w64 (of_z w64 r.1)) (picks_of c.args.count c.args.slice.now) made.picks made.count
    (c.indices_of_a_span.ensures r.0.start r.0.end r.1 (λ none. made.saturated.moves (sym made.step ∙ none))) made.within c.if-picks-eq0.false
    (to_z-of_z w64 r.1 (subst (λ (z : ℤ). FitsSigned w64 z) (sym made.step) made.saturated.step)) c.unsigned_abs-stride.ensures.value c.if-step-lt0.false).below

pub returns-then-step-lt0-clause-few : goal.returns-then-step-lt0-clause-few
returns-then-step-lt0-clause-few c =
    let made = c.adjust_indices-step.ensures in
    let r = c.adjust_indices-step.result in
    (code_falls r.0.start r.0.end r.2 c.args.count c.unsigned_abs-stride.result r.1 (to_z w64 (of_z w64 r.1)) (picks_of c.args.count c.args.slice.now) made.picks made.count
    (c.indices_of_a_span.ensures r.0.start r.0.end r.1 (λ none. made.saturated.moves (sym made.step ∙ none))) made.within c.if-picks-eq0.false
    (to_z-of_z w64 r.1 (subst (λ (z : ℤ). FitsSigned w64 z) (sym made.step) made.saturated.step)) c.unsigned_abs-stride.ensures.value c.if-step-lt0.true).few

pub returns-clause-few : goal.returns-clause-few
returns-clause-few c =
    let made = c.adjust_indices-step.ensures in
    let r = c.adjust_indices-step.result in
    (code_rises r.0.start r.0.end r.2 c.args.count c.unsigned_abs-stride.result r.1 (to_z w64 (of_z w64 r.1)) (picks_of c.args.count c.args.slice.now) made.picks made.count
    (c.indices_of_a_span.ensures r.0.start r.0.end r.1 (λ none. made.saturated.moves (sym made.step ∙ none))) made.within c.if-picks-eq0.false
    (to_z-of_z w64 r.1 (subst (λ (z : ℤ). FitsSigned w64 z) (sym made.step) made.saturated.step)) c.unsigned_abs-stride.ensures.value c.if-step-lt0.false).few
