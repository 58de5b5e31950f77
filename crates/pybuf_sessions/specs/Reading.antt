-- What a function that reads an input promises, by the definition that it reads by.
use Rattle.std.specs.Prelude.{◌≡◌, ℕ, List, Option, Some, None, Result, Ok, Err}
use Rattle.pybuf_command.specs.declared.kinds.ExporterKind.{ExporterKind}
use Rattle.pybuf_line.specs.declared.unread.Unread.{Unread}
use Rattle.pybuf_line.specs.declared.unread.Unread.TheVariants as unread
use Rattle.pybuf_line.specs.declared.unread.Misread.{Misread}
use Rattle.pybuf_line.specs.declared.unread.Misread.TheVariants as misread
use Rattle.pybuf_share.specs.History.{Opening}
use Rattle.pybuf_command.specs.declared.commands.LocalCommand.{LocalCommand}
use Rattle.pybuf_sessions.specs.declared.asks.Ask.{Ask}
use Rattle.pybuf_sessions.specs.Scripts.{added}

-- What was read is what the definition gives, and so is the number of the line that is told. Memory may run
-- out.
abbrev pub ReadsAll : {X : Type 0} → Result X Misread → Result X ℕ → Type 0
ReadsAll (Ok x) read = read ≡ Ok x
ReadsAll (Err (misread.BadLine n)) read = read ≡ Err n
ReadsAll (Err misread.NoMemory) read = Unit {0}

-- The kind and the bytes that were read are those that the definition gives. If none were read, it gives none.
abbrev pub ReadsOpening : Result (ExporterKind × List ℕ) Unread → Option Opening → Type 0
ReadsOpening (Ok made) read = read ≡ Some (record { kind = made.0; bytes = made.1 })
ReadsOpening (Err unread.NoCommand) read = read ≡ None
ReadsOpening (Err unread.NoMemory) read = Unit {0}

-- What a line asks for was added to scripts, or the line asks for nothing. Memory may run out.
abbrev pub Adds : {X : Type 0} → Result X Unread → Option Ask → List (List LocalCommand) → List (List LocalCommand) → Type 0
Adds (Ok x) read old new = (ask : Ask) × (read ≡ Some ask) × (new ≡ added ask.session ask.command old)
Adds (Err unread.NoCommand) read old new = read ≡ None
Adds (Err unread.NoMemory) read old new = Unit {0}
