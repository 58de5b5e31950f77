use Rattle.pybuf_command.specs.declared.commands.Verb.TheVariants as verbs
use Rattle.pybuf_command.specs.declared.kinds.Subject.TheVariants as subjects
use Rattle.pybuf_state.specs.Answers.{exporter_of}
use Rattle.pybuf_exporter.specs.Step.{answer_of}
use Rattle.pybuf_exporter.proofs.Every.{closes_sound}
use Rattle.pybuf_exporter.proofs.Counting.{closes_stored, always_on_err}
use Rattle.pybuf_exporter.proofs.exporter.ExporterState.set_through_view.Goals as goal

pub invariant_of-self : goal.invariant_of-self
invariant_of-self c =
    let e = exporter_of c.self.inside.parts in
    record {
      counted = c.set_through_view.ensures.counted;
      sound = closes_sound e (exporter_of c.set_through_view.new.parts) c.set_through_view.result (answer_of e (subjects.View c.args.view) (verbs.Set c.args.key.now c.args.value.now) c.args.loans.now) c.set_through_view.ensures.answer c.self.invariant.sound
          (c.commands_keep_sound.ensures e (subjects.View c.args.view) (verbs.Set c.args.key.now c.args.value.now) c.args.loans.now c.self.invariant.sound);
    }

pub returns-clause-ok : goal.returns-clause-ok
returns-clause-ok c =
    let e = exporter_of c.self.inside.parts in
    rw (← c.self.view_is)
    (c.closed.ensures.ok (answer_of e (subjects.View c.args.view) (verbs.Set c.args.key.now c.args.value.now) c.args.loans.now) e (exporter_of c.set_through_view.new.parts) c.set_through_view.ensures.answer)

pub returns-clause-err : goal.returns-clause-err
returns-clause-err c =
    let e = exporter_of c.self.inside.parts in
    rw (← c.self.view_is)
    (closes_stored (answer_of e (subjects.View c.args.view) (verbs.Set c.args.key.now c.args.value.now) c.args.loans.now) e (exporter_of c.set_through_view.new.parts) c.self.inside.parts.bytes.room c.set_through_view.new.parts.bytes.room c.set_through_view.result c.closed.result c.set_through_view.ensures.answer (always_on_err _ c.set_through_view.result c.set_through_view.ensures.room) c.closed.ensures.memory)
