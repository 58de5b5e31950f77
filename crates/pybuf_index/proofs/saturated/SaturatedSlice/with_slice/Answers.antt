-- Clamping the parts changes no index.
use Rattle.std.proofs.Common.{ap, sym, ◌∙◌, rules}
use Rattle.std.specs.Prelude.{FitsSigned}
use Rattle.std.specs.Int.{w64, w128}
use Rattle.std.proofs.lemmas.Int.{to_z-of_z}
use Rattle.pybuf_index.specs.Parts.{nearest_word}
use Rattle.pybuf_index.proofs.PartLemmas.{same_from_parts}
use Rattle.pybuf_index.proofs.saturated.SaturatedSlice.with_slice.Goals as goal

pub returns-clause-indices : goal.returns-clause-indices
returns-clause-indices c =
    let wide : FitsSigned w128 c.in_ok-step.step = search rules in
    let fits : FitsSigned w64 c.saturate.result = search rules in
    same_from_parts c.args.slice.now c.in_ok-step.step c.in_ok-start.start c.in_ok-stop.stop _
    (sym (c.in_ok-step.ensures)) (sym (c.in_ok-start.ensures)) (sym (c.in_ok-stop.ensures))
    c.saturated_part.ensures.clamped c.saturated_part-2.ensures.clamped
    (to_z-of_z w64 c.saturate.result fits ∙ c.saturate.ensures ∙ ap nearest_word (to_z-of_z w128 c.in_ok-step.step wide))
