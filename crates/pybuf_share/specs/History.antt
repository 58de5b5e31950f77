-- The history of an exporter, and when a single thread could have made it.
use Rattle.std.specs.Prelude.{◌≡◌, ℕ, List, [], ◌∷◌, ◌++◌, length, map}
use Rattle.pybuf_command.specs.declared.commands.LocalCommand.{LocalCommand}
use Rattle.pybuf_command.specs.declared.commands.LocalReply.{LocalReply}
use Rattle.pybuf_command.specs.declared.kinds.ExporterKind.{ExporterKind}
use Rattle.pybuf_state.specs.Exporter.{Exporter, new_exporter}
use Rattle.pybuf_exporter.specs.Step.{estep}
use Rattle.pybuf_share.specs.declared.entries.Entry.{Entry}
use Rattle.pybuf_share.specs.declared.entries.Receipt.{Receipt}

-- an exporter after a command, and its reply
abbrev pub step_by : Exporter → LocalCommand → Exporter × LocalReply
step_by e command = estep e command.subject command.verb command.loans

-- the exporter after the commands of these entries, one after the other
abbrev pub after_entries : Exporter → List Entry → Exporter
after_entries e [] = e
after_entries e (x ∷ xs) = after_entries (step_by e x.command).0 xs

-- the replies of the exporter to these commands
abbrev pub replies_along : Exporter → List Entry → List LocalReply
replies_along e [] = []
replies_along e (x ∷ xs) = (step_by e x.command).1 ∷ replies_along (step_by e x.command).0 xs

-- A new exporter of this kind and with these bytes, after the commands of a history. The replies of the entries
-- don't matter here.
abbrev pub replay : ExporterKind → List ℕ → List Entry → Exporter
replay k opening entries = after_entries (new_exporter k opening) entries

-- A history is legal if each entry has the reply that the exporter gives there.
abbrev pub IsLegal : ExporterKind → List ℕ → List Entry → Type 0
IsLegal k opening entries = map (λ x. x.reply) entries ≡ replies_along (new_exporter k opening) entries

-- the kind and the bytes that an exporter begins with
pub record Opening : Type 0 where
  pub kind : ExporterKind
  pub bytes : List ℕ

-- What is kept under the lock: the kind and the bytes at the beginning, and all entries since.
pub record Log : Type 0 where
  pub kind : ExporterKind
  pub opening : List ℕ
  pub entries : List Entry

-- the exporter as it is now
abbrev pub state_of : Log → Exporter
state_of log = replay log.kind log.opening log.entries

abbrev pub IsLegalLog : Log → Type 0
IsLegalLog log = IsLegal log.kind log.opening log.entries

-- the entry of a command that a session asks for now
abbrev pub entry_now : Log → ℕ → LocalCommand → Entry
entry_now log session command = record { session = session; command = command; reply = (step_by (state_of log) command).1 }

-- the history with one more command
abbrev pub noted : Log → ℕ → LocalCommand → Log
noted log session command = record log { entries = log.entries ++ entry_now log session command ∷ [] }

-- the receipt that the session gets for it
abbrev pub receipt_now : Log → ℕ → LocalCommand → Receipt
receipt_now log session command = record { at = length log.entries; entry = entry_now log session command }

-- What holds of what is kept. The exporter is the replay of the history, the history is legal, and the ledger
-- has counted its entries.
pub record IsKept (log : Log) (state : Exporter) (total : ℕ) : Type 0 where
  pub replays : state ≡ state_of log
  pub legal : IsLegalLog log
  pub counted : total ≡ length log.entries
