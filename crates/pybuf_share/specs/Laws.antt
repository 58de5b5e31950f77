-- Laws of histories and of entries that join scripts.
use Rattle.std.specs.Prelude.{◌≡◌, ℕ, List, [], ◌∷◌, ◌++◌, length, map, take, Some, slice_get}
use Rattle.std.specs.List.{sum_by, All}
use Rattle.pybuf_command.specs.declared.commands.LocalCommand.{LocalCommand}
use Rattle.pybuf_command.specs.declared.commands.LocalReply.{LocalReply}
use Rattle.pybuf_command.specs.declared.kinds.ExporterKind.{ExporterKind}
use Rattle.pybuf_state.specs.Exporter.{Exporter, new_exporter}
use Rattle.pybuf_share.specs.declared.entries.Entry.{Entry}
use Rattle.pybuf_share.specs.Sessions.{Asker}
use Rattle.pybuf_share.specs.Finishing.{numbers_from, NumbersRise, Stands, receipts_of, calls_of, IsOwn, ArePlain, AreTheirs}
use Rattle.pybuf_share.specs.History.{step_by, after_entries, replay, IsLegal}
use Rattle.pybuf_share.specs.Joining.{resolve, entries_of, Joins}
use Rattle.pybuf_share.specs.Parts.{IsLegalFrom}

-- What is known of all sessions of an exporter at their end, compared with a history. Their receipts stand in
-- it, at rising numbers, and each came from a call. The ledger has counted as many calls for them as there are
-- entries.
pub record AreShown (sessions : List Asker) (entries : List Entry) : Type 0 where
  pub numbers : map (λ s. s.number) sessions ≡ numbers_from 0 (length sessions)
  pub rise : NumbersRise sessions
  pub stand : All (Stands entries) (receipts_of sessions)
  pub known : All IsOwn sessions
  pub plain : ArePlain sessions
  pub counted : length entries ≡ calls_of sessions

-- Then the receipts of each session are exactly its entries, in order.
abbrev pub ReceiptsAreTheEntries : Type 0
ReceiptsAreTheEntries = (sessions : List Asker) (entries : List Entry) → AreShown sessions entries → AreTheirs sessions entries

-- the exporter after one thread steps it through commands, one after the other
abbrev pub stepped_through : Exporter → List LocalCommand → Exporter
stepped_through e [] = e
stepped_through e (c ∷ cs) = stepped_through (step_by e c).0 cs

-- the replies that this thread gets
abbrev pub replied_to : Exporter → List LocalCommand → List LocalReply
replied_to e [] = []
replied_to e (c ∷ cs) = (step_by e c).1 ∷ replied_to (step_by e c).0 cs

-- One thread gets this exporter and these replies, if it steps a new exporter through the commands of the
-- history.
pub record IsOfOneThread (k : ExporterKind) (opening : List ℕ) (entries : List Entry) : Type 0 where
  pub exporter : replay k opening entries ≡ stepped_through (new_exporter k opening) (map (λ x. x.command) entries)
  pub replies : map (λ x. x.reply) entries ≡ replied_to (new_exporter k opening) (map (λ x. x.command) entries)

-- A legal history is what one thread gets.
abbrev pub LegalHistoriesAreOfOneThread : Type 0
LegalHistoriesAreOfOneThread = (k : ExporterKind) (opening : List ℕ) (entries : List Entry) → IsLegal k opening entries → IsOfOneThread k opening entries

-- One thread gets this exporter and these replies, if it steps an exporter of this state through the commands of the
-- entries.
pub record IsOfOneThreadFrom (e : Exporter) (entries : List Entry) : Type 0 where
  pub exporter : after_entries e entries ≡ stepped_through e (map (λ x. x.command) entries)
  pub replies : map (λ x. x.reply) entries ≡ replied_to e (map (λ x. x.command) entries)

-- A legal part is what one thread gets that begins where the part begins.
abbrev pub LegalPartsAreOfOneThread : Type 0
LegalPartsAreOfOneThread = (e : Exporter) (entries : List Entry) → IsLegalFrom e entries → IsOfOneThreadFrom e entries

-- Two parts, of which the second begins where the first ends, are one part.
pub record AreOnePart (e : Exporter) (before after : List Entry) : Type 0 where
  pub legal : IsLegalFrom e (before ++ after)
  pub leads : after_entries e (before ++ after) ≡ after_entries (after_entries e before) after

-- Legal parts, one after the other, are one legal history.
abbrev pub PartsMakeOneHistory : Type 0
PartsMakeOneHistory = (e : Exporter) (before after : List Entry) → IsLegalFrom e before → IsLegalFrom (after_entries e before) after → AreOnePart e before after

-- A command of a script has its entry: the session's entry at the command's place. That entry's command is this
-- one, and its views and iterators are named as the replies of the session's entries before name them.
pub record HasItsEntry (own : List Entry) (place : ℕ) (command : LocalCommand) : Type 0 where
  pub entry : Entry
  pub there : slice_get own place ≡ Some entry
  pub resolved : entry.command ≡ resolve command (map (λ x. x.reply) (take place own))

-- Entries are all commands of scripts. There are as many entries as commands, and each session's entries are
-- those of its script, in order.
pub record AreTheScripts (scripts : List (List LocalCommand)) (entries : List Entry) : Type 0 where
  pub as_many : length entries ≡ sum_by length scripts
  pub each_many : (session : ℕ) (script : List LocalCommand) → slice_get scripts session ≡ Some script → length (entries_of session entries) ≡ length script
  pub each : (session place : ℕ) (script : List LocalCommand) (command : LocalCommand) → slice_get scripts session ≡ Some script → slice_get script place ≡ Some command → HasItsEntry (entries_of session entries) place command

-- Entries that join scripts are all their commands, each once, and no others.
abbrev pub JoinedEntriesAreTheScripts : Type 0
JoinedEntriesAreTheScripts = (scripts : List (List LocalCommand)) (entries : List Entry) → Joins scripts entries → AreTheScripts scripts entries
