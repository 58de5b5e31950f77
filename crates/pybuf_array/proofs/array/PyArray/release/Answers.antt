use Rattle.std.proofs.Common.{◌≡◌, ap, ◌∙◌}
use Rattle.std.specs.Prelude.{Result, Ok, Err, OnErr}
use Rattle.pybuf_value.specs.declared.faults.Fault.{Fault}
use Rattle.pybuf_state.specs.Exporter.{Exporter}
use Rattle.pybuf_exporter.specs.Stored.{StoredExporter}
use Rattle.pybuf_array.proofs.Viewing.{released_settles, released_sound}
use Rattle.pybuf_array.proofs.array.PyArray.release.Goals as goal

stays_on_err : (r : Result (Unit {0}) Fault) (old new : StoredExporter) (e : Exporter) → old.exporter ≡ e → OnErr r (new ≡ old) → OnErr r (new.exporter ≡ e)
stays_on_err (Ok done) old new e at same = same
stays_on_err (Err f) old new e at same = ap (λ (s : StoredExporter). s.exporter) same ∙ at

pub returns : goal.returns
returns c =
    let s = c.self.inside in
    let state = c.state_mut.ensures.value in
    released_settles s.code s.bytes s.runs.items c.args.self.now c.self.invariant c.self.view_is c.args.view c.release_view.result _ (rw (state) at c.release_view.ensures.exact) (stays_on_err c.release_view.result _ _ s.bytes state c.release_view.ensures.err)

pub invariant_of-self : goal.invariant_of-self
invariant_of-self c =
    let s = c.self.inside in
    let state = c.state_mut.ensures.value in
    released_sound s.code s.bytes s.runs.items c.args.self.now c.self.invariant c.self.view_is c.args.view c.release_view.result _ (rw (state) at c.release_view.ensures.exact) (stays_on_err c.release_view.result _ _ s.bytes state c.release_view.ensures.err)
