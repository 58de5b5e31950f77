-- Bytes of one shared exporter that are lent to a command of another.
use Rattle.std.specs.Prelude.{◌≡◌, ◌≢◌, ℕ, true, false, List, [], ◌∷◌, ◌++◌, length, codes, Option, Some, None}
use Rattle.pybuf_value.specs.declared.snaps.Snap.{Snap}
use Rattle.pybuf_value.specs.declared.snaps.SnapKind.TheVariants as kind
use Rattle.pybuf_command.specs.declared.commands.LocalCommand.{LocalCommand}
use Rattle.pybuf_command.specs.declared.commands.LocalReply.{LocalReply}
use Rattle.pybuf_command.specs.declared.commands.LocalReply.TheVariants as reply
use Rattle.pybuf_command.specs.declared.commands.Verb.TheVariants as verb
use Rattle.pybuf_command.specs.declared.kinds.ExporterKind.TheVariants as exporter_kind
use Rattle.pybuf_command.specs.declared.kinds.Subject.{Subject}
use Rattle.pybuf_command.specs.declared.loans.Loan.{Loan}
use Rattle.pybuf_command.specs.declared.loans.Loan.TheVariants as loan
use Rattle.pybuf_command.specs.Loans.{loan_of}
use Rattle.pybuf_state.specs.Exporter.{new_exporter}
use Rattle.pybuf_state.specs.Snaps.{snap_of_exporter}
use Rattle.pybuf_share.specs.Sessions.{Asker, IsAnswered, last_reply}

-- the command that asks for the bytes of a subject
abbrev pub bytes_asked : Subject → LocalCommand
bytes_asked s = record { subject = s; verb = verb.ToBytes None; loans = [] }

-- the bytes of a reply, or none if it is another reply or there is no reply
abbrev pub bytes_in_reply : Option LocalReply → Option (List ℕ)
bytes_in_reply (Some (reply.Bytes bytes)) = Some bytes
bytes_in_reply _ = None

-- the bytes in the last reply to a session
abbrev pub bytes_given : Asker → Option (List ℕ)
bytes_given s = bytes_in_reply (last_reply s.receipts)

-- these bytes as a loan, which are lent as they are now
abbrev pub snap_of_bytes : List ℕ → Snap
snap_of_bytes bytes = record {
  kind = kind.Bytes;
  format = codes "B";
  itemsize = 1;
  shape = length bytes ∷ [];
  content = bytes;
  contiguous = true;
  released = false;
}

-- a command that gets bytes as the loan for one more handle
abbrev pub with_bytes : ℕ → List ℕ → LocalCommand → LocalCommand
with_bytes handle bytes c = record c { loans = c.loans ++ (handle, loan.Other (snap_of_bytes bytes)) ∷ [] }

-- Bytes are lent to a command for a handle that had no loan. They are lent as an exporter of kind bytes that
-- has them would be. Each other handle keeps its loan.
pub record AreLent (handle : ℕ) (bytes : List ℕ) (command : LocalCommand) : Type 0 where
  pub named : loan_of (with_bytes handle bytes command).loans handle ≡ Some (loan.Other (snap_of_exporter (new_exporter exporter_kind.Bytes bytes)))
  pub others : (h : ℕ) → h ≢ handle → loan_of (with_bytes handle bytes command).loans h ≡ loan_of command.loans h

-- A session has taken bytes. It has one more receipt, of the command that gets them as the loan for the handle.
pub record HasTaken (before : Asker) (command : LocalCommand) (handle : ℕ) (bytes : List ℕ) (after : Asker) : Type 0 where
  pub answered : IsAnswered before (with_bytes handle bytes command) after
  pub lent : AreLent handle bytes command

-- A session takes what another was replied. It takes nothing if that reply isn't bytes.
abbrev pub Takes : Asker → LocalCommand → ℕ → Option (List ℕ) → Asker → Type 0
Takes before command handle (Some bytes) after = HasTaken before command handle bytes after
Takes before command handle None after = after ≡ before
