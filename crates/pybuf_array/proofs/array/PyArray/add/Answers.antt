use Rattle.std.proofs.Common.{ap, ◌∙◌, List, ◌++◌, ◌∷◌, []}
use Rattle.pybuf_numbers.specs.declared.runs.IndexRun.{IndexRun}
use Rattle.pybuf_array.proofs.Viewing.{got_whole, added_number, added_array, added_all}
use Rattle.pybuf_array.proofs.array.PyArray.add.Goals as goal

pub returns-clause-number : goal.returns-clause-number
returns-clause-number c =
    let s = c.self.inside in
    added_number s.code s.bytes s.runs.items c.args.self.now c.self.invariant c.self.view_is _ _ (got_whole _ s.bytes c.add_whole.new.self.exporter c.in_ok-view.view c.state_mut.ensures.value c.in_ok-view.ensures.answer)

pub returns-clause-array : goal.returns-clause-array
returns-clause-array c =
    let s = c.self.inside in
    added_array s.code s.bytes s.runs.items c.args.self.now c.self.invariant c.self.view_is _ _ c.args.run _ (got_whole _ s.bytes c.add_whole.new.self.exporter c.in_ok-view.view c.state_mut.ensures.value c.in_ok-view.ensures.answer)
    (c.push_reserved.ensures ∙ ap (λ (rs : List IndexRun). rs ++ c.args.run ∷ []) c.in_ok-reserve.ensures.items)

pub invariant_of-self-2 : goal.invariant_of-self-2
invariant_of-self-2 c =
    let s = c.self.inside in
    added_all s.code s.bytes s.runs.items c.args.self.now c.self.invariant c.self.view_is _ _ c.args.run _ (got_whole _ s.bytes c.add_whole.new.self.exporter c.in_ok-view.view c.state_mut.ensures.value c.in_ok-view.ensures.answer)
    (c.push_reserved.ensures ∙ ap (λ (rs : List IndexRun). rs ++ c.args.run ∷ []) c.in_ok-reserve.ensures.items) c.requires
