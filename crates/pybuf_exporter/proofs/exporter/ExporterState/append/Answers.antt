use Rattle.std.proofs.Common.{rules}
use Rattle.pybuf_command.specs.declared.commands.Verb.TheVariants as verbs
use Rattle.pybuf_command.specs.declared.kinds.Subject.TheVariants as subjects
use Rattle.pybuf_state.specs.Answers.{exporter_of, Answers}
use Rattle.pybuf_exporter.specs.Step.{answer_of}
use Rattle.pybuf_exporter.proofs.Every.{closes_sound}
use Rattle.pybuf_exporter.proofs.Counting.{closes_stored}
use Rattle.pybuf_exporter.proofs.exporter.ExporterState.append.Goals as goal

pub invariant_of-self : goal.invariant_of-self
invariant_of-self c =
    let e = exporter_of c.self.inside.parts in
    let answer : Answers (answer_of e subjects.Own (verbs.Append c.args.value.now) c.args.loans.now) e c.append.result (exporter_of c.append.new.parts) = search (rules, c.is_value_known.ensures, c.append.ensures.answer) in
    record {
      counted = c.append.ensures.counted;
      sound = closes_sound e (exporter_of c.append.new.parts) c.append.result (answer_of e subjects.Own (verbs.Append c.args.value.now) c.args.loans.now) answer c.self.invariant.sound
          (c.commands_keep_sound.ensures e subjects.Own (verbs.Append c.args.value.now) c.args.loans.now c.self.invariant.sound);
    }

pub returns-clause-ok : goal.returns-clause-ok
returns-clause-ok c =
    let e = exporter_of c.self.inside.parts in
    let answer : Answers (answer_of e subjects.Own (verbs.Append c.args.value.now) c.args.loans.now) e c.append.result (exporter_of c.append.new.parts) = search (rules, c.is_value_known.ensures, c.append.ensures.answer) in
    rw (← c.self.view_is)
    (c.closed.ensures.ok (answer_of e subjects.Own (verbs.Append c.args.value.now) c.args.loans.now) e (exporter_of c.append.new.parts) answer)

pub returns-clause-err : goal.returns-clause-err
returns-clause-err c =
    let e = exporter_of c.self.inside.parts in
    let answer : Answers (answer_of e subjects.Own (verbs.Append c.args.value.now) c.args.loans.now) e c.append.result (exporter_of c.append.new.parts) = search (rules, c.is_value_known.ensures, c.append.ensures.answer) in
    rw (← c.self.view_is)
    (closes_stored (answer_of e subjects.Own (verbs.Append c.args.value.now) c.args.loans.now) e (exporter_of c.append.new.parts) c.self.inside.parts.bytes.room c.append.new.parts.bytes.room c.append.result c.closed.result answer c.append.ensures.err_room c.closed.ensures.memory)
