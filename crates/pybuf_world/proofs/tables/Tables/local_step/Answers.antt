use Rattle.std.proofs.Common.{◌≡◌, List, set, ap, ap₂, sym, ◌∙◌}
use Rattle.std.specs.Prelude.{Some, slice_get}
use Rattle.pybuf_command.specs.declared.commands.LocalReply.{LocalReply}
use Rattle.pybuf_state.specs.Exporter.{Exporter}
use Rattle.pybuf_exporter.specs.Step.{estep_by}
use Rattle.pybuf_exporter.specs.Stored.{StoredExporter}
use Rattle.pybuf_world.specs.declared.named.Named.{Named}
use Rattle.pybuf_world.specs.Tables.{world_of}
use Rattle.pybuf_world.specs.World.{World, loans_of}
use Rattle.pybuf_world.specs.Stepping.{named_to, local_step}
use Rattle.pybuf_world.proofs.Among.{stepped_among, as_before, if_ok, on_err}
use Rattle.pybuf_world.proofs.tables.Tables.local_step.Goals as goal

pub returns-clause-ok : goal.returns-clause-ok
returns-clause-ok c =
    let w : World = world_of c.args.self.now in
    let t = c.args.target in
    let dest : Exporter = c.empty-nothing.result.exporter in
    let worker : Exporter = c.replace-worker.result.exporter in
    let new : Exporter = c.carry_out-answer.new.self.exporter in
    let at : slice_get w.exporters t.exporter ≡ Some worker = c.replace-worker.ensures.value in
    let left : c.put.new.self ≡ set (set w.exporters t.exporter dest) t.exporter new =
    c.put.ensures ∙ ap (λ (es : List Exporter). set es t.exporter new) c.replace-worker.ensures.items in
    let stepped_by : List Exporter → List Named → Exporter × LocalReply = λ es hs. estep_by worker t.subject c.args.verb.now (named_to (record { exporters = es; handles = hs }) t.exporter) in
    if_ok (λ (r : LocalReply). stepped_by c.replace-worker.new.self c.as_slice.result.now ≡ (new, r))
    (λ (r : LocalReply). local_step w t c.args.verb.now (loans_of w t.exporter c.args.verb.now) (slice_get w.exporters t.exporter) ≡ (record w { exporters = c.put.new.self }, r))
    c.carry_out-answer.result
    (λ r stepped. stepped_among c.names_alike_do_the_same.ensures w t c.args.verb.now worker dest new r at (sym (ap₂ stepped_by c.replace-worker.ensures.items c.as_slice.ensures.value) ∙ stepped)
    ∙ ap (λ (es : List Exporter). (record w { exporters = es }, r)) (sym left))
    c.carry_out-answer.ensures.ok

pub returns-clause-err : goal.returns-clause-err
returns-clause-err c =
    let w : World = world_of c.args.self.now in
    let t = c.args.target in
    let dest : Exporter = c.empty-nothing.result.exporter in
    let worker : Exporter = c.replace-worker.result.exporter in
    let new : Exporter = c.carry_out-answer.new.self.exporter in
    let at : slice_get w.exporters t.exporter ≡ Some worker = c.replace-worker.ensures.value in
    let left : c.put.new.self ≡ set (set w.exporters t.exporter dest) t.exporter new =
    c.put.ensures ∙ ap (λ (es : List Exporter). set es t.exporter new) c.replace-worker.ensures.items in
    on_err (c.carry_out-answer.new.self ≡ c.replace-worker.result) (record w { exporters = c.put.new.self } ≡ w) c.carry_out-answer.result
    (λ same. ap (λ (es : List Exporter). record w { exporters = es }) left ∙ as_before w t.exporter worker dest new at (ap (λ (s : StoredExporter). s.exporter) same)) c.carry_out-answer.ensures.err
