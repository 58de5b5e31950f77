-- How a command is written in a history.
use Rattle.std.specs.Prelude.{ℕ, List, ◌∷◌}
use Rattle.std.specs.Str.{byte}
use Rattle.std.specs.List.{join_with_byte}
use Rattle.pybuf_command.specs.declared.commands.LocalCommand.{LocalCommand}
use Rattle.pybuf_line.specs.Words.{written_word}
use Rattle.pybuf_line.specs.Commands.{word_of, written_arguments}
use Rattle.pybuf_histories.specs.Names.{subject_text, name_of}

-- the words of a command, which are those of a line, but its subject and its handles have the names of what
-- they are
abbrev pub command_words : LocalCommand → List (List ℕ)
command_words c = written_word (word_of c.verb) ∷ subject_text c.subject ∷ written_arguments (name_of c.loans) c.verb

-- the text of a command, which has a blank between each two words
unfoldable pub command_text : LocalCommand → List ℕ
command_text c = join_with_byte (byte " ") (command_words c)
