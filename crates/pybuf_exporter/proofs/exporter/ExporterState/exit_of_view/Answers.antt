use Rattle.pybuf_command.specs.declared.commands.Verb.TheVariants as verbs
use Rattle.pybuf_command.specs.declared.kinds.Subject.TheVariants as subjects
use Rattle.pybuf_state.specs.Answers.{exporter_of}
use Rattle.pybuf_exporter.specs.Step.{answer_of}
use Rattle.pybuf_exporter.proofs.Every.{closes_sound}
use Rattle.pybuf_exporter.proofs.Counting.{closes_stored, always_on_err}
use Rattle.pybuf_exporter.proofs.exporter.ExporterState.exit_of_view.Goals as goal

pub invariant_of-self : goal.invariant_of-self
invariant_of-self c =
    let e = exporter_of c.self.inside.parts in
    record {
      counted = c.exit_of_view.ensures.counted;
      sound = closes_sound e (exporter_of c.exit_of_view.new.parts) c.exit_of_view.result (answer_of e (subjects.View c.args.view) verbs.Exit c.args.loans.now) c.exit_of_view.ensures.answer c.self.invariant.sound
          (c.commands_keep_sound.ensures e (subjects.View c.args.view) verbs.Exit c.args.loans.now c.self.invariant.sound);
    }

pub returns-clause-err : goal.returns-clause-err
returns-clause-err c =
    let e = exporter_of c.self.inside.parts in
    rw (← c.self.view_is)
    (closes_stored (answer_of e (subjects.View c.args.view) verbs.Exit c.args.loans.now) e (exporter_of c.exit_of_view.new.parts) c.self.inside.parts.bytes.room c.exit_of_view.new.parts.bytes.room c.exit_of_view.result c.closed.result c.exit_of_view.ensures.answer (always_on_err _ c.exit_of_view.result c.exit_of_view.ensures.room) c.closed.ensures.memory)
