-- If there are no items, there are no copies, and each round adds the copies of one more list.
use Rattle.std.proofs.Common.{rules, ◌≡◌, ◌+◌, ◌≤◌, [], length, arith, vec_capacity}
use Rattle.pybuf_slice.proofs.TwinLemmas.{none_repeated, once_more, room_for_more}
use Rattle.pybuf_slice.proofs.repeats.copies_of.Goals as goal

pub returns-then-is_empty : goal.returns-then-is_empty
returns-then-is_empty g c =
    let none : length c.args.items.now ≡ 0 = search rules in
    let empty : c.in_ok-list.list.items ≡ [] = search rules in
    none_repeated g.T.Twin.same c.args.times c.args.items.now c.in_ok-list.list.items none empty

pub append_copies-requires : goal.append_copies-requires
append_copies-requires g c =
    let inv = c.loop-time.invariant in
    let room : length c.loop-time.list.items + length c.args.items.now ≤ vec_capacity c.loop-time.list =
    room_for_more g.T.Twin.same c.loop-time._time c.args.times c.args.items.now c.loop-time.list.items (vec_capacity c.loop-time.list) c.loop-time-test.true inv.0 inv.1 in
    omega (arith, room, c.loop-time.list.ok.0)

pub loop-time-preserved : goal.loop-time-preserved
loop-time-preserved g c =
    let inv = c.loop-time.invariant in (
      once_more g.T.Twin.same c.loop-time._time c.args.items.now c.loop-time.list.items c.append_copies.new.list.items inv.0 c.in_ok-append_copies.ensures.ok,
      omega (arith, inv.1, c.append_copies.ensures.room),
    )
