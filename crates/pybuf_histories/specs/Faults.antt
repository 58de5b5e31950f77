-- The line that says why sessions don't agree with a history.
use Rattle.std.specs.Prelude.{ℕ, List, [], ◌++◌, codes, decimal, Option, Some, None}
use Rattle.pybuf_value.specs.Spelling.{bytes_text}
use Rattle.pybuf_command.specs.declared.kinds.ExporterKind.{ExporterKind}
use Rattle.pybuf_share.specs.declared.entries.Entry.{Entry}
use Rattle.pybuf_share.specs.declared.joined.FinishFault.{FinishFault}
use Rattle.pybuf_share.specs.declared.joined.FinishFault.TheVariants as fault
use Rattle.pybuf_line.specs.Words.{written_kind}
use Rattle.pybuf_histories.specs.Entries.{entry_text}

-- the entry that the history has at a number, if it has one
abbrev pub kept_text : Option Entry → List ℕ
kept_text (Some kept) = entry_text kept
kept_text None = codes "none"

-- the kind and the bytes that an exporter begins with
abbrev pub opening_text : ExporterKind → List ℕ → List ℕ
opening_text kind bytes = written_kind kind ++ codes " " ++ bytes_text bytes

abbrev pub fault_text : FinishFault → List ℕ
fault_text (fault.Disagree at kept got) = codes "disagree " ++ decimal at ++ codes ": " ++ kept_text kept ++ codes " | " ++ entry_text got ++ codes "\n"
fault_text (fault.Order session before after) = codes "order " ++ decimal session ++ codes ": " ++ decimal before ++ codes " " ++ decimal after ++ codes "\n"
fault_text (fault.Opening given_kind given kept_kind kept) = codes "opening " ++ opening_text given_kind given ++ codes " | " ++ opening_text kept_kind kept ++ codes "\n"
fault_text fault.NoMemory = []
