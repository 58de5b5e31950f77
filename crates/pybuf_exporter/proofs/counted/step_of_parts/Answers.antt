use Rattle.pybuf_state.specs.Answers.{exporter_of}
use Rattle.pybuf_exporter.specs.Step.{answer_of}
use Rattle.pybuf_exporter.proofs.Counting.{where_done, still_by, where_refused, few_moved, without_memory, closes_stored, where_ok, where_err}
use Rattle.pybuf_exporter.proofs.Every.{closes_sound}
use Rattle.pybuf_exporter.proofs.counted.step_of_parts.Goals as goal

pub returns-clause-moves : goal.returns-clause-moves
returns-clause-moves g c =
    let command = c.args.command.now in
    let e = exporter_of c.args.parts.now in
    let f = exporter_of c.answer.new.parts in
    let effect = answer_of e command.subject command.verb command.loans in
    let a = c.answer.result in
    let d = c.answer.ensures in
    where_ok _ _ c.closed.result c.closed.ensures.done
    (λ never. record {
      front_counter = λ n first done. where_done _ effect e f a d.answer done never (d.paid.front_counter n first);
      front_room = λ n first done. where_done _ effect e f a d.answer done never (d.paid.front_room n first);
      end_counter = λ grows done. where_done _ effect e f a d.answer done never (d.paid.end_counter grows);
      end_spare = λ grows done. where_done _ effect e f a d.answer done never (d.paid.end_spare grows);
      still_counter = λ leaves done. where_done _ effect e f a d.answer done never (still_by _ _ a (d.paid.still_counter leaves.0) leaves.1);
      still_room = λ leaves done. where_done _ effect e f a d.answer done never (still_by _ _ a (d.paid.still_room leaves.0) leaves.1);
      few = few_moved a c.args.moved.now c.answer.new.moved _ d.paid.few d.paid.err_counter;
      refused_counter = λ refused. where_refused _ effect e f a d.answer refused d.paid.err_counter;
      refused_room = λ refused. where_refused _ effect e f a d.answer refused d.paid.err_room;
      kept_counter = d.kept_counter;
      kept_room = d.kept_room;
    })

pub returns-clause-err : goal.returns-clause-err
returns-clause-err g c =
    let command = c.args.command.now in
    let e = exporter_of c.args.parts.now in
    let f = exporter_of c.answer.new.parts in
    let effect = answer_of e command.subject command.verb command.loans in
    let a = c.answer.result in
    let d = c.answer.ensures in
    closes_stored effect e f c.args.parts.now.bytes.room c.answer.new.parts.bytes.room a c.closed.result d.answer d.paid.err_room c.closed.ensures.memory

pub returns-clause-err_counter : goal.returns-clause-err_counter
returns-clause-err_counter g c = where_err _ _ c.closed.result c.closed.ensures.memory (λ gone. without_memory _ c.answer.result gone c.answer.ensures.paid.err_counter)

pub returns-clause-ok : goal.returns-clause-ok
returns-clause-ok g c =
    let command = c.args.command.now in
    let e = exporter_of c.args.parts.now in
    c.closed.ensures.ok (answer_of e command.subject command.verb command.loans) e (exporter_of c.answer.new.parts) c.answer.ensures.answer

pub returns-clause-whole : goal.returns-clause-whole
returns-clause-whole g c =
    let command = c.args.command.now in
    let e = exporter_of c.args.parts.now in
    record {
      counted = c.answer.ensures.counted;
      sound = closes_sound e (exporter_of c.answer.new.parts) c.answer.result (answer_of e command.subject command.verb command.loans) c.answer.ensures.answer c.requires.whole.sound
          (c.commands_keep_sound.ensures e command.subject command.verb command.loans c.requires.whole.sound);
    }
