-- Parts of a history: what was recorded from one hand-over to the next.
use Rattle.std.specs.Prelude.{◌≡◌, ℕ, List, length, map, Some}
use Rattle.std.specs.List.{All}
use Rattle.pybuf_command.specs.declared.commands.LocalCommand.{LocalCommand}
use Rattle.pybuf_state.specs.Exporter.{Exporter}
use Rattle.pybuf_share.specs.declared.entries.Entry.{Entry}
use Rattle.pybuf_share.specs.declared.entries.Receipt.{Receipt}
use Rattle.pybuf_share.specs.declared.joined.FinishFault.{FinishFault}
use Rattle.pybuf_share.specs.declared.joined.FinishFault.TheVariants as fault
use Rattle.pybuf_share.specs.declared.joined.Part.{Part}
use Rattle.pybuf_share.specs.History.{step_by, after_entries, replies_along}
use Rattle.pybuf_share.specs.Sessions.{Asker}
use Rattle.pybuf_share.specs.Finishing.{order_fault, NumbersRise, Stands, receipts_of, IsFirstAway, IsDisagreement}

-- Entries are a legal history from a state on if each has the reply that the exporter gives there.
abbrev pub IsLegalFrom : Exporter → List Entry → Type 0
IsLegalFrom e entries = map (λ x. x.reply) entries ≡ replies_along e entries

-- the entry of a command that a session asks for, after these entries from a state on
abbrev pub entry_from : Exporter → List Entry → ℕ → LocalCommand → Entry
entry_from e entries session command = record { session = session; command = command; reply = (step_by (after_entries e entries) command).1 }

-- the receipt that the session gets for it
abbrev pub receipt_from : Exporter → List Entry → ℕ → LocalCommand → Receipt
receipt_from e entries session command = record { at = length entries; entry = entry_from e entries session command }

-- What holds of what is kept of a part. The exporter is what the entries lead to from the state in which the part
-- began, the entries are a legal history from there, and the ledger has counted them.
pub record IsKeptFrom (e : Exporter) (entries : List Entry) (state : Exporter) (total : ℕ) : Type 0 where
  pub replays : state ≡ after_entries e entries
  pub legal : IsLegalFrom e entries
  pub counted : total ≡ length entries

-- The receipt numbers of each session rise, and the entry of each receipt stands at its number.
pub record AgreeWith (entries : List Entry) (sessions : List Asker) : Type 0 where
  pub rise : NumbersRise sessions
  pub stand : All (Stands entries) (receipts_of sessions)

-- A part that is handed over. Its entries are a legal history from the state in which it began, and lead to the
-- state that is handed over. The entry of each receipt stands at its number.
pub record IsPart (e : Exporter) (sessions : List Asker) (part : Part) : Type 0 where
  pub legal : IsLegalFrom e part.entries
  pub leads : part.state.exporter ≡ after_entries e part.entries
  pub agree : AgreeWith part.entries sessions

-- why sessions don't agree with entries
abbrev pub RefusesEntries : List Entry → List Asker → FinishFault → Type 0
RefusesEntries entries sessions (fault.Opening given_kind given kept_kind kept) = ⊥
RefusesEntries entries sessions (fault.Order session before after) = order_fault sessions ≡ Some (fault.Order session before after)
RefusesEntries entries sessions (fault.Disagree at kept got) = NumbersRise sessions × IsFirstAway entries (receipts_of sessions) at kept got
RefusesEntries entries sessions fault.NoMemory = Unit {0}

-- Why a part isn't handed over, as far as the receipts tell.
abbrev pub RefusesPart : List Asker → FinishFault → Type 0
RefusesPart sessions (fault.Opening given_kind given kept_kind kept) = ⊥
RefusesPart sessions (fault.Order session before after) = order_fault sessions ≡ Some (fault.Order session before after)
RefusesPart sessions (fault.Disagree at kept got) = IsDisagreement sessions at kept got
RefusesPart sessions fault.NoMemory = Unit {0}
