use Rattle.std.proofs.Common.{◌∙◌, ap, ◌++◌}
use Rattle.pybuf_lemmas.proofs.Results.{on_ok_follows}
use Rattle.pybuf_line.specs.Words.{written_word}
use Rattle.pybuf_line.specs.Commands.{word_of, written_arguments}
use Rattle.pybuf_histories.specs.Names.{subject_text, name_of}
use Rattle.pybuf_histories.specs.Commands.{command_text}
use Rattle.pybuf_histories.proofs.Joined.{command_parts}
use Rattle.pybuf_histories.proofs.commands.push_command.Goals as goal

pub returns : goal.returns
unfolding command_text
returns c =
    let command = c.args.command.now in
    on_ok_follows c.push_arguments.result
    (λ h. command_parts c.args.out.now.items c.extend_from_slice.new.self.items c.push.new.self.items c.push_subject.new.out.items c.push_arguments.new.out.items
    (written_word (word_of command.verb)) (subject_text command.subject) (written_arguments (name_of command.loans) command.verb)
    (c.in_ok-extend_from_slice.ensures.items ∙ ap (λ word. c.args.out.now.items ++ word) (c.as_bytes.ensures.value ∙ c.verb_text.ensures))
    c.in_ok-push.ensures.items c.in_ok-push_subject.ensures
    h)
    c.push_arguments.ensures
