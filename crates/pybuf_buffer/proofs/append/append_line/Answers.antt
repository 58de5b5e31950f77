use Rattle.std.proofs.Common.{◌≡◌, ◌+◌, ◌*◌, ◌≤◌, length, arith}
use Rattle.std.specs.Prelude.{vec_len, vec_capacity, true, false}
use Rattle.pybuf_buffer.proofs.Appended.{items_inside, line_long}
use Rattle.pybuf_buffer.proofs.append.append_line.Goals as goal

pub append_items-requires : goal.append_items-requires
append_items-requires c = record { source_inside = items_inside c.args.line (length c.args.bytes.now) c.requires.line c.requires.inside }

pub unreachable-requires : goal.unreachable-requires
unreachable-requires c =
    let long = line_long c.lines_have_their_pieces.ensures c.args.line c.args.bytes.now (items_inside c.args.line (length c.args.bytes.now) c.requires.line c.requires.inside) in
    let fits : vec_len c.args.buf.now + c.args.line.size * c.args.line.count ≤ vec_capacity c.args.buf.now = omega (arith, c.requires.room, long) in
    let wrong : false ≡ true = c.in-Err.ensures.succeeds fits in
    cc
