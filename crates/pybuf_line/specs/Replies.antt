-- Lines of replies.
use Rattle.std.specs.Prelude.{ℕ, List, [], ◌∷◌, ◌++◌, codes, decimal}
use Rattle.std.specs.Str.{byte}
use Rattle.std.specs.List.{flat_map}
use Rattle.pybuf_command.specs.declared.worlds.Reply.{Reply}
use Rattle.pybuf_command.specs.Shown.{reply_text}

-- a reply with its line feed
abbrev pub reply_line : (ℕ → List ℕ) → Reply → List ℕ
reply_line name reply = reply_text name reply ++ byte "\n" ∷ []

-- a line for each reply
abbrev pub reply_lines : (ℕ → List ℕ) → List Reply → List ℕ
reply_lines name replies = flat_map (reply_line name) replies

-- the text for an input whose line of this number is no command
abbrev pub bad_line_text : ℕ → List ℕ
bad_line_text n = codes "line " ++ decimal n ++ codes " is not a command\n"
