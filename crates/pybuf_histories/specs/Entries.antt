-- The text of a history: a line for each entry, and the lines behind the last one.
use Rattle.std.specs.Prelude.{ℕ, List, [], ◌∷◌, ◌++◌, length, codes, decimal}
use Rattle.std.specs.Str.{byte}
use Rattle.std.specs.List.{flat_map}
use Rattle.pybuf_value.specs.Spelling.{bytes_text}
use Rattle.pybuf_state.specs.Exporter.{Exporter}
use Rattle.pybuf_share.specs.declared.entries.Entry.{Entry}
use Rattle.pybuf_histories.specs.Commands.{command_text}
use Rattle.pybuf_histories.specs.Replies.{local_reply_text}

-- an entry, as `0: get v0 1 -> 97`
unfoldable pub entry_text : Entry → List ℕ
entry_text x = decimal x.session ++ codes ": " ++ command_text x.command ++ codes " -> " ++ local_reply_text x.command.subject x.reply

-- an entry as a line, with its line feed
abbrev pub entry_line : Entry → List ℕ
entry_line x = entry_text x ++ byte "\n" ∷ []

-- two lines: the number of entries, and the bytes that there are in the end
unfoldable pub last_lines : ℕ → List ℕ → List ℕ
last_lines calls bytes = codes "calls " ++ decimal calls ++ codes "\nbytes " ++ bytes_text bytes ++ codes "\n"

-- the whole text of a history that leads to an exporter
abbrev pub shared_text : List Entry → Exporter → List ℕ
shared_text entries e = flat_map entry_line entries ++ last_lines (length entries) e.bytes
