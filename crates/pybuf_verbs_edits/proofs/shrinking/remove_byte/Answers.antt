use Rattle.std.proofs.Common.{rules, ◌≡◌, arith, ℕ, Ok}
use Rattle.std.specs.Prelude.{◌==◌}
use Rattle.std.specs.List.{position_or_len}
use Rattle.pybuf_value.specs.Numbers.{byte_in}
use Rattle.pybuf_state.specs.Answers.{exporter_of}
use Rattle.pybuf_verbs_edits.proofs.Taking.{valued_room, valued_counter}
use Rattle.pybuf_verbs_edits.proofs.shrinking.remove_byte.Goals as goal

pub returns-in-Some-clause-paid : goal.returns-in-Some-clause-paid
returns-in-Some-clause-paid g c =
    let e = exporter_of c.args.parts.now in
    let read : byte_in c.args.value.now ≡ Ok c.in_ok-byte.byte = search rules in
    let found : position_or_len (λ b. b == c.in_ok-byte.byte) e.bytes ≡ c.in-Some.place = search rules in
    record {
      few = omega (arith, c.remove_range.ensures.counter);
      front_room = λ n first. valued_room (byte_in c.args.value.now) (λ (byte : ℕ). position_or_len (λ b. b == byte) e.bytes) c.in_ok-byte.byte c.in-Some.place n c.args.parts.now.bytes.room c.remove_range.new.self.bytes.room read found first c.remove_range.ensures.front_room;
      front_counter = λ n first. valued_counter (byte_in c.args.value.now) (λ (byte : ℕ). position_or_len (λ b. b == byte) e.bytes) c.in_ok-byte.byte c.in-Some.place n c.args.moved.now c.remove_range.new.moved read found first c.remove_range.ensures.front_counter;
      err_room = tt;
      err_counter = tt;
    }
