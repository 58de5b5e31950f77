-- What is left when sessions of one exporter have carried out scripts.
use Rattle.std.specs.Prelude.{◌≡◌, ◌≢◌, ◌<◌, ◌≤◌, ℕ, List, length, map, Option, Some, slice_get}
use Rattle.std.specs.List.{Contains}
use Rattle.pybuf_command.specs.declared.commands.LocalCommand.{LocalCommand}
use Rattle.pybuf_command.specs.declared.commands.LocalReply.{LocalReply}
use Rattle.pybuf_command.specs.declared.kinds.ExporterKind.{ExporterKind}
use Rattle.pybuf_share.specs.declared.entries.Entry.{Entry}
use Rattle.pybuf_share.specs.declared.joined.FinishFault.{FinishFault}
use Rattle.pybuf_share.specs.declared.joined.FinishFault.TheVariants as fault
use Rattle.pybuf_share.specs.declared.joined.Joined.{Joined}
use Rattle.pybuf_share.specs.History.{Opening}
use Rattle.pybuf_share.specs.Sessions.{Asker}
use Rattle.pybuf_share.specs.Finishing.{numbers_from, IsJoined, IsNotOpening, ArePlain, AreTheirs}
use Rattle.pybuf_share.specs.Joining.{resolve, Joins}

-- Scripts were carried out. There are sessions, one for each script, and each of their receipts came from a
-- call. Their receipts are exactly the entries of a history, and that history is legal, leads to the exporter,
-- and joins the scripts.
pub record IsRun (k : ExporterKind) (bytes : List ℕ) (scripts : List (List LocalCommand)) (joined : Joined) : Type 0 where
  pub sessions : List Asker
  pub numbers : map (λ s. s.number) sessions ≡ numbers_from 0 (length scripts)
  pub plain : ArePlain sessions
  pub joined_of : IsJoined k bytes sessions joined
  pub theirs : AreTheirs sessions joined.entries
  pub joins : Joins scripts joined.entries

-- An entry is of a session that has a script. Its command is one of that script, and its views and iterators
-- are named as some replies name them.
pub record IsOfScripts (scripts : List (List LocalCommand)) (x : Entry) : Type 0 where
  pub script : List LocalCommand
  pub has : slice_get scripts x.session ≡ Some script
  pub command : LocalCommand
  pub one_of : Contains script command
  pub replies : List LocalReply
  pub named : x.command ≡ resolve command replies

-- What the history keeps isn't the entry that a session shows, whose command is one of its script.
pub record IsNotKept (scripts : List (List LocalCommand)) (kept : Option Entry) (got : Entry) : Type 0 where
  pub of_scripts : IsOfScripts scripts got
  pub differs : kept ≢ Some got

-- Two receipt numbers of a session that has a script don't rise.
pub record IsFall (scripts : List (List LocalCommand)) (session before after : ℕ) : Type 0 where
  pub has : session < length scripts
  pub falls : after ≤ before

-- Why scripts weren't carried out. A caller never sees the sessions, so this says only what a caller can tell.
abbrev pub IsNotRun : ExporterKind → List ℕ → List (List LocalCommand) → FinishFault → Type 0
IsNotRun k bytes scripts (fault.Opening given_kind given kept_kind kept) = IsNotOpening (record { kind = k; bytes = bytes }) given_kind given kept_kind kept
IsNotRun k bytes scripts (fault.Order session before after) = IsFall scripts session before after
IsNotRun k bytes scripts (fault.Disagree at kept got) = IsNotKept scripts kept got
IsNotRun k bytes scripts fault.NoMemory = Unit {0}
