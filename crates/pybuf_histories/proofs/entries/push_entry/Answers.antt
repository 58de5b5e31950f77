use Rattle.std.proofs.Common.{◌≡◌, ◌++◌, codes, decimal, ap, ◌∙◌}
use Rattle.pybuf_command.specs.declared.commands.LocalCommand.{LocalCommand}
use Rattle.pybuf_lemmas.proofs.Results.{on_ok_follows}
use Rattle.pybuf_histories.specs.Commands.{command_text}
use Rattle.pybuf_histories.specs.Replies.{local_reply_text}
use Rattle.pybuf_histories.specs.Entries.{entry_text}
use Rattle.pybuf_histories.proofs.Joined.{five_parts}
use Rattle.pybuf_histories.proofs.entries.push_entry.Goals as goal

pub returns : goal.returns
unfolding entry_text
returns c =
    let x = c.args.entry.now in
    let asked : c.as_command-command.result.now ≡ x.command = c.as_command-command.ensures in
    let before = c.extend_from_slice.new.self.items in
    let last = c.extend_from_slice-2.new.self.items in
    on_ok_follows c.push_local_reply.result
    (λ put. five_parts c.args.out.now.items c.push_decimal.new.out.items c.extend_from_slice.new.self.items c.push_command.new.out.items
    c.extend_from_slice-2.new.self.items c.push_local_reply.new.out.items
    (decimal x.session) (codes ": ") (command_text x.command) (codes " -> ") (local_reply_text x.command.subject x.reply)
    c.in_ok-push_decimal.ensures c.in_ok-extend_from_slice.ensures.items (c.in_ok-push_command.ensures ∙ ap (λ (k : LocalCommand). before ++ command_text k) asked) c.in_ok-extend_from_slice-2.ensures.items
    (put ∙ ap (λ (k : LocalCommand). last ++ local_reply_text k.subject x.reply) asked))
    c.push_local_reply.ensures
