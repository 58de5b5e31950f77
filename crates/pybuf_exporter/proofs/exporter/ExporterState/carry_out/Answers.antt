use Rattle.pybuf_state.specs.Answers.{exporter_of}
use Rattle.pybuf_exporter.specs.Step.{answer_by}
use Rattle.pybuf_exporter.proofs.Every.{closes_sound}
use Rattle.pybuf_exporter.proofs.Counting.{closes_stored}
use Rattle.pybuf_exporter.proofs.exporter.ExporterState.carry_out.Goals as goal

pub invariant_of-self : goal.invariant_of-self
invariant_of-self g c =
    let e = exporter_of c.self.inside.parts in
    let named = g.N.Names.named c.args.names.now in
    record {
      counted = c.answer.ensures.counted;
      sound = closes_sound e (exporter_of c.answer.new.parts) c.answer.result (answer_by e c.args.subject c.args.verb.now named) c.answer.ensures.answer c.self.invariant.sound
          (c.steps_keep_sound.ensures e c.args.subject c.args.verb.now named c.self.invariant.sound);
    }

pub returns-clause-ok : goal.returns-clause-ok
returns-clause-ok g c =
    let e = exporter_of c.self.inside.parts in
    let named = g.N.Names.named c.args.names.now in
    rw (← c.self.view_is)
    (c.closed.ensures.ok (answer_by e c.args.subject c.args.verb.now named) e (exporter_of c.answer.new.parts) c.answer.ensures.answer)

pub returns-clause-err : goal.returns-clause-err
returns-clause-err g c =
    let e = exporter_of c.self.inside.parts in
    let named = g.N.Names.named c.args.names.now in
    rw (← c.self.view_is)
    (closes_stored (answer_by e c.args.subject c.args.verb.now named) e (exporter_of c.answer.new.parts) c.self.inside.parts.bytes.room c.answer.new.parts.bytes.room c.answer.result c.closed.result c.answer.ensures.answer c.answer.ensures.err_room c.closed.ensures.memory)
