use Rattle.std.proofs.Common.{◌∙◌, ◌+◌, ap, length, slice_range, arith}
use Rattle.example_users.specs.Lines.{lines_in, line_len_of, answer_of}
use Rattle.example_users.proofs.SpanLemmas.{lent_writable, lent_content, lent_written}
use Rattle.example_users.proofs.RoomLemmas.{answered_now, answer_ends, line_found, line_inside, part_overwritten}
use Rattle.example_users.proofs.line_buffer.LineBuffer.answer.Goals as goal

pub contiguous_bytes_mut-room-requires-clause-writable : goal.contiguous_bytes_mut-room-requires-clause-writable
contiguous_bytes_mut-room-requires-clause-writable c = lent_writable c.self.inside.room _ c.self.inside.view c.self.invariant.spanned c.state_mut.ensures.value

pub slice_bounds-make_ascii_uppercase-end : goal.slice_bounds-make_ascii_uppercase-end
slice_bounds-make_ascii_uppercase-end c =
    let room = c.contiguous_bytes_mut-room.ensures.value ∙ lent_content c.self.inside.room _ c.self.inside.view c.self.invariant.spanned c.state_mut.ensures.value in
    let begin = c.self.inside.begin in
    let end = c.self.inside.end in
    let found = ap (λ b. line_len_of b.waiting) c.self.view_is ∙ line_found c.args.self.now _ c.in-Some.ensures in
    let inside = line_inside c.self.inside.room.bytes begin end (length c.in-Some.line.now) found in
    omega (arith, ap (λ xs. length xs) room, inside, c.self.invariant.inside)

pub returns-clause-after : goal.returns-clause-after
returns-clause-after c =
    let room = c.contiguous_bytes_mut-room.ensures.value ∙ lent_content c.self.inside.room _ c.self.inside.view c.self.invariant.spanned c.state_mut.ensures.value in
    let begin = c.self.inside.begin in
    let end = c.self.inside.end in
    let found = ap (λ b. line_len_of b.waiting) c.self.view_is ∙ line_found c.args.self.now _ c.in-Some.ensures in
    let inside = line_inside c.self.inside.room.bytes begin end (length c.in-Some.line.now) found in
    let to = begin + length c.in-Some.line.now + 1 in
    ap (λ x. lines_in x.bytes to end) (lent_written c.self.inside.room _ c.self.inside.view c.self.invariant.spanned c.state_mut.ensures.value _)
    ∙ answered_now c.self.inside.room _ _ begin end (length c.in-Some.line.now) c.self.view_is
    (part_overwritten c.self.inside.room.bytes _ (answer_of (slice_range c.self.inside.room.bytes begin to)) _ begin to room
    (c.make_ascii_uppercase.ensures.after ∙ ap (λ xs. answer_of (slice_range xs begin to)) room)
    (answer_ends c.self.inside.room.bytes begin to (omega arith) (omega (arith, inside, c.self.invariant.inside))))
    found
    c.self.invariant.inside
