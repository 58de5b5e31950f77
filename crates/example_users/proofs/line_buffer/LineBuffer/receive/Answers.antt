use Rattle.std.proofs.Common.{◌∙◌, ◌+◌, ap, length, arith}
use Rattle.std.proofs.lemmas.List.{length-take-le}
use Rattle.example_users.specs.Lines.{lines_in}
use Rattle.example_users.proofs.SpanLemmas.{lent_writable, lent_content, lent_written}
use Rattle.example_users.proofs.RoomLemmas.{received_now, part_overwritten}
use Rattle.example_users.proofs.line_buffer.LineBuffer.receive.Goals as goal

pub contiguous_bytes_mut-room-requires-clause-writable : goal.contiguous_bytes_mut-room-requires-clause-writable
contiguous_bytes_mut-room-requires-clause-writable c = lent_writable c.self.inside.room _ c.self.inside.view c.self.invariant.spanned c.state_mut.ensures.value

pub slice_bounds-copy_from_slice-end : goal.slice_bounds-copy_from_slice-end
slice_bounds-copy_from_slice-end c =
    let room = c.contiguous_bytes_mut-room.ensures.value ∙ lent_content c.self.inside.room _ c.self.inside.view c.self.invariant.spanned c.state_mut.ensures.value in
    omega (arith, ap (λ xs. length xs) room, c.min-count.ensures, c.byte_count.ensures, c.self.invariant.inside)

pub returns-clause-after : goal.returns-clause-after
returns-clause-after c =
    let room = c.contiguous_bytes_mut-room.ensures.value ∙ lent_content c.self.inside.room _ c.self.inside.view c.self.invariant.spanned c.state_mut.ensures.value in
    let count = c.min-count.result in
    let end = c.self.inside.end in
    let many = length-take-le count c.args.bytes.now (omega (arith, c.min-count.ensures)) in
    ap (λ x. lines_in x.bytes c.self.inside.begin (end + count)) (lent_written c.self.inside.room _ c.self.inside.view c.self.invariant.spanned c.state_mut.ensures.value _)
    ∙ received_now c.self.inside.room _ _ _ c.self.inside.begin end count c.self.view_is
    (part_overwritten c.self.inside.room.bytes _ _ _ end (end + count) room c.copy_from_slice.ensures.after (ap (λ n. end + n) many))
    many
    c.self.invariant.ordered
    (omega (arith, c.min-count.ensures, c.byte_count.ensures, c.self.invariant.inside))
