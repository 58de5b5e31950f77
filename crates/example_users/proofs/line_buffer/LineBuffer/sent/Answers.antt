use Rattle.std.proofs.Common.{◌∙◌, ◌-◌, ap, length, arith}
use Rattle.example_users.specs.Lines.{lines_in}
use Rattle.example_users.proofs.SpanLemmas.{lent_writable, lent_content, lent_written}
use Rattle.example_users.proofs.RoomLemmas.{sent_now, front_moved}
use Rattle.example_users.proofs.line_buffer.LineBuffer.sent.Goals as goal

pub contiguous_bytes_mut-room-requires-clause-writable : goal.contiguous_bytes_mut-room-requires-clause-writable
contiguous_bytes_mut-room-requires-clause-writable c = lent_writable c.self.inside.room _ c.self.inside.view c.self.invariant.spanned c.state_mut.ensures.value

pub copy_within-requires-clause-in_bounds : goal.copy_within-requires-clause-in_bounds
copy_within-requires-clause-in_bounds c =
    let room = c.contiguous_bytes_mut-room.ensures.value ∙ lent_content c.self.inside.room _ c.self.inside.view c.self.invariant.spanned c.state_mut.ensures.value in
    omega (arith, ap (λ xs. length xs) room, c.self.invariant.inside)

pub copy_within-requires-clause-dest_in_bounds : goal.copy_within-requires-clause-dest_in_bounds
copy_within-requires-clause-dest_in_bounds c =
    let room = c.contiguous_bytes_mut-room.ensures.value ∙ lent_content c.self.inside.room _ c.self.inside.view c.self.invariant.spanned c.state_mut.ensures.value in
    omega (arith, ap (λ xs. length xs) room, c.self.invariant.inside)

pub returns : goal.returns
returns c =
    let room = c.contiguous_bytes_mut-room.ensures.value ∙ lent_content c.self.inside.room _ c.self.inside.view c.self.invariant.spanned c.state_mut.ensures.value in
    let begin = c.self.inside.begin in
    let end = c.self.inside.end in
    ap (λ x. lines_in x.bytes 0 (end - begin)) (lent_written c.self.inside.room _ c.self.inside.view c.self.invariant.spanned c.state_mut.ensures.value _)
    ∙ sent_now c.self.inside.room _ _ begin end c.self.view_is
    (front_moved c.self.inside.room.bytes _ _ begin end room c.copy_within.ensures.after c.self.invariant.ordered c.self.invariant.inside)
    c.self.invariant.ordered
    c.self.invariant.inside
