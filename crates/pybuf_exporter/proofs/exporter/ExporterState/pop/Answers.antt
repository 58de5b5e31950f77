use Rattle.pybuf_command.specs.declared.commands.Verb.TheVariants as verbs
use Rattle.pybuf_command.specs.declared.kinds.Subject.TheVariants as subjects
use Rattle.pybuf_state.specs.Answers.{exporter_of}
use Rattle.pybuf_exporter.specs.Step.{answer_of}
use Rattle.pybuf_exporter.proofs.Every.{closes_sound}
use Rattle.pybuf_exporter.proofs.Counting.{closes_stored}
use Rattle.pybuf_exporter.proofs.exporter.ExporterState.pop.Goals as goal

pub invariant_of-self : goal.invariant_of-self
invariant_of-self c =
    let e = exporter_of c.self.inside.parts in
    record {
      counted = c.pop.ensures.counted;
      sound = closes_sound e (exporter_of c.pop.new.parts) c.pop.result (answer_of e subjects.Own (verbs.Pop c.args.index.now) c.args.loans.now) c.pop.ensures.answer c.self.invariant.sound
          (c.commands_keep_sound.ensures e subjects.Own (verbs.Pop c.args.index.now) c.args.loans.now c.self.invariant.sound);
    }

pub returns-clause-ok : goal.returns-clause-ok
returns-clause-ok c =
    let e = exporter_of c.self.inside.parts in
    rw (← c.self.view_is)
    (c.closed.ensures.ok (answer_of e subjects.Own (verbs.Pop c.args.index.now) c.args.loans.now) e (exporter_of c.pop.new.parts) c.pop.ensures.answer)

pub returns-clause-err : goal.returns-clause-err
returns-clause-err c =
    let e = exporter_of c.self.inside.parts in
    rw (← c.self.view_is)
    (closes_stored (answer_of e subjects.Own (verbs.Pop c.args.index.now) c.args.loans.now) e (exporter_of c.pop.new.parts) c.self.inside.parts.bytes.room c.pop.new.parts.bytes.room c.pop.result c.closed.result c.pop.ensures.answer c.pop.ensures.err_room c.closed.ensures.memory)
