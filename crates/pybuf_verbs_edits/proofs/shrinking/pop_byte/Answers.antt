use Rattle.std.proofs.Common.{rules, ◌≡◌, arith, length, Ok}
use Rattle.pybuf_index.specs.Places.{entry_in}
use Rattle.pybuf_verbs_edits.specs.Shrinking.{count_or_last}
use Rattle.pybuf_state.specs.Answers.{exporter_of}
use Rattle.pybuf_verbs_edits.proofs.Taking.{named_room, named_counter}
use Rattle.pybuf_verbs_edits.proofs.shrinking.pop_byte.Goals as goal

pub returns-clause-paid : goal.returns-clause-paid
returns-clause-paid g c =
    let e = exporter_of c.args.parts.now in
    let named : count_or_last c.args.index.now ≡ Ok c.in_ok-number.number = search rules in
    let found : entry_in (length e.bytes) c.in_ok-number.number ≡ Ok c.in_ok-place.place = search rules in
    record {
      few = omega (arith, c.remove_range.ensures.counter);
      front_room = λ n first. named_room (count_or_last c.args.index.now) (entry_in (length e.bytes)) c.in_ok-number.number c.in_ok-place.place n c.args.parts.now.bytes.room c.remove_range.new.self.bytes.room named found first c.remove_range.ensures.front_room;
      front_counter = λ n first. named_counter (count_or_last c.args.index.now) (entry_in (length e.bytes)) c.in_ok-number.number c.in_ok-place.place n c.args.moved.now c.remove_range.new.moved named found first c.remove_range.ensures.front_counter;
      err_room = tt;
      err_counter = tt;
    }
