-- Laws of the texts of histories.
use Rattle.std.specs.Prelude.{◌≡◌, ℕ, List, [], ◌∷◌, ◌++◌, length, map, codes, decimal}
use Rattle.std.specs.List.{AllByRecursion}
use Rattle.pybuf_value.specs.Spelling.{bytes_text}
use Rattle.pybuf_command.specs.declared.kinds.ExporterKind.{ExporterKind}
use Rattle.pybuf_state.specs.Exporter.{Exporter}
use Rattle.pybuf_share.specs.declared.entries.Entry.{Entry}
use Rattle.pybuf_share.specs.History.{IsLegal}
use Rattle.pybuf_line.specs.Lines.{lines}
use Rattle.pybuf_line.specs.Laws.{IsOneLine, IsSpelledVerb}
use Rattle.pybuf_histories.specs.Replies.{local_reply_text}
use Rattle.pybuf_histories.specs.Entries.{entry_text, shared_text}

-- The reply of each entry of a legal history is one line.
abbrev pub RepliesOfEntriesAreSingle : Type 0
RepliesOfEntriesAreSingle =
    (k : ExporterKind) (opening : List ℕ) (entries : List Entry) → IsLegal k opening entries →
    AllByRecursion (λ x. IsOneLine (local_reply_text x.command.subject x.reply)) entries

-- The commands of the entries are commands that lines spell.
abbrev pub AreSpelled : List Entry → Type 0
AreSpelled entries = AllByRecursion (λ x. IsSpelledVerb x.command.verb) entries

-- Then the text of each entry of a legal history is one line.
abbrev pub EntriesAreSingle : Type 0
EntriesAreSingle =
    (k : ExporterKind) (opening : List ℕ) (entries : List Entry) → IsLegal k opening entries → AreSpelled entries →
    AllByRecursion (λ x. IsOneLine (entry_text x)) entries

-- the lines of a history: one for each entry, and two more
abbrev pub lines_due : List Entry → List ℕ → List (List ℕ)
lines_due entries bytes = map entry_text entries ++ (codes "calls " ++ decimal (length entries)) ∷ (codes "bytes " ++ bytes_text bytes) ∷ []

-- These are the lines of its whole text.
abbrev pub SharedTextHasItsLines : Type 0
SharedTextHasItsLines =
    (k : ExporterKind) (opening : List ℕ) (entries : List Entry) (e : Exporter) → IsLegal k opening entries → AreSpelled entries →
    lines (shared_text entries e) ≡ lines_due entries e.bytes
