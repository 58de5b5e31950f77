use Rattle.std.proofs.Common.{◌≡◌, ◌+◌, ◌-◌, ◌≤◌, length, take, drop, arith}
use Rattle.pybuf_struct.proofs.Packs.{writes_nothing, writes_accepted, writes_more, writes_within, part_length, part_written}
use Rattle.pybuf_struct.proofs.pack.write_all.Goals as goal

pub loop-value-init : goal.loop-value-init
loop-value-init g c = record {
  writes = writes_nothing _ _ _ _ _ _ c.requires.accepted c.new-cursor.ensures.fields;
  bound = omega (arith, c.requires.bound, c.new-cursor.ensures.end);
}

pub write_field-requires-clause-accepted : goal.write_field-requires-clause-accepted
write_field-requires-clause-accepted g c =
    let within : c.in-Some.field.offset + c.in-Some.field.length ≤ length c.loop-value.room = omega (arith, writes_within _ _ _ _ _ _ _ _ _ _ _ c.loop-value.invariant.writes c.in-Some.ensures.some) in
    rw (part_length c.in-Some.field.offset c.in-Some.field.length c.loop-value.room within) (writes_accepted _ _ _ _ _ _ _ _ _ _ _ _ c.loop-value.invariant.writes c.loop-value-test.true c.value-item.is c.in-Some.ensures.some)

pub loop-value-preserved : goal.loop-value-preserved
loop-value-preserved g c =
    let within : c.in-Some.field.offset + c.in-Some.field.length ≤ length c.loop-value.room = omega (arith, writes_within _ _ _ _ _ _ _ _ _ _ _ c.loop-value.invariant.writes c.in-Some.ensures.some) in
    let part : length (take (c.in-Some.field.offset + c.in-Some.field.length - c.in-Some.field.offset) (drop c.in-Some.field.offset c.loop-value.room)) ≡ c.in-Some.field.length = part_length c.in-Some.field.offset c.in-Some.field.length c.loop-value.room within in
    let long : length c.write_field.new.place ≡ c.in-Some.field.offset + c.in-Some.field.length - c.in-Some.field.offset = omega (arith, part, c.write_field.auto.place) in
    record {
      writes = writes_more _ _ _ _ _ _ _ _ _ _ _ _ _ c.write_field.new.place c.loop-value.invariant.writes c.loop-value-test.true c.value-item.is c.in-Some.ensures.some (rw part at c.write_field.ensures) (part_written _ _ _ _ long);
      bound = omega (arith, c.loop-value.invariant.bound, c.in-Some.ensures.end);
    }
