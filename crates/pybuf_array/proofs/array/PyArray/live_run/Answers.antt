use Rattle.std.proofs.Common.{◌^◌, ap, ◌∙◌, sym, subst, arith, List, slice_get, length}
use Rattle.pybuf_state.specs.Exporter.{Exporter}
use Rattle.pybuf_state.specs.Live.{is_live}
use Rattle.pybuf_numbers.specs.declared.runs.IndexRun.{IndexRun}
use Rattle.pybuf_array.specs.Array.{Array}
use Rattle.pybuf_array.specs.Parts.{IsInside}
use Rattle.pybuf_array.proofs.Viewing.{live_view_is, released_view_is, no_view_is, below_more}
use Rattle.pybuf_array.proofs.array.PyArray.live_run.Goals as goal

pub returns-in-None-clause-view : goal.returns-in-None-clause-view
returns-in-None-clause-view c =
    let s = c.self.inside in
    no_view_is s.code s.bytes s.runs.items c.args.self.now c.self.invariant c.self.view_is c.args.view
    (ap (λ (rs : List IndexRun). slice_get rs c.args.view) (sym c.as_slice.ensures.value) ∙ (sym c.run_at.ensures ∙ c.in-None.is))

pub returns-then-is_live-clause-view : goal.returns-then-is_live-clause-view
returns-then-is_live-clause-view c =
    let s = c.self.inside in
    live_view_is s.code s.bytes s.runs.items c.args.self.now c.self.invariant c.self.view_is c.args.view c.in-Some.found
    (ap (λ (rs : List IndexRun). slice_get rs c.args.view) (sym c.as_slice.ensures.value) ∙ (sym c.run_at.ensures ∙ c.in-Some.is))
    (ap (λ (x : Exporter). is_live x c.args.view) (sym c.state.ensures) ∙ (sym c.is_live.ensures ∙ c.if-is_live.true))

pub returns-then-is_live-clause-inside : goal.returns-then-is_live-clause-inside
returns-then-is_live-clause-inside c =
    let s = c.self.inside in
    subst (λ (b : Array). IsInside (length b.numbers) c.in-Some.found) c.self.view_is
    (c.self.invariant.inside c.args.view c.in-Some.found
    (ap (λ (rs : List IndexRun). slice_get rs c.args.view) (sym c.as_slice.ensures.value) ∙ (sym c.run_at.ensures ∙ c.in-Some.is))
    (ap (λ (x : Exporter). is_live x c.args.view) (sym c.state.ensures) ∙ (sym c.is_live.ensures ∙ c.if-is_live.true)))

pub returns-then-is_live-clause-below : goal.returns-then-is_live-clause-below
returns-then-is_live-clause-below c =
    below_more (length c.args.self.now.numbers) (2 ^ 63) c.in-Some.found (omega arith)
    (subst (λ (b : Array). IsInside (length b.numbers) c.in-Some.found) c.self.view_is
    (c.self.invariant.inside c.args.view c.in-Some.found
    (ap (λ (rs : List IndexRun). slice_get rs c.args.view) (sym c.as_slice.ensures.value) ∙ (sym c.run_at.ensures ∙ c.in-Some.is))
    (ap (λ (x : Exporter). is_live x c.args.view) (sym c.state.ensures) ∙ (sym c.is_live.ensures ∙ c.if-is_live.true)))).below

pub returns-else-is_live-clause-view : goal.returns-else-is_live-clause-view
returns-else-is_live-clause-view c =
    let s = c.self.inside in
    released_view_is s.code s.bytes s.runs.items c.args.self.now c.self.invariant c.self.view_is c.args.view c.in-Some.found
    (ap (λ (rs : List IndexRun). slice_get rs c.args.view) (sym c.as_slice.ensures.value) ∙ (sym c.run_at.ensures ∙ c.in-Some.is))
    (ap (λ (x : Exporter). is_live x c.args.view) (sym c.state.ensures) ∙ (sym c.is_live.ensures ∙ c.if-is_live.false))
