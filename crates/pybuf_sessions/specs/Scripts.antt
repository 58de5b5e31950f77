-- The scripts of sessions: what each of them asks for, in order.
use Rattle.std.specs.Prelude.{ℕ, zero, suc, ◌+◌, max, List, [], ◌∷◌, ◌++◌, map, ◌==◌, if◌then◌else◌}
use Rattle.pybuf_command.specs.declared.commands.LocalCommand.{LocalCommand}
use Rattle.pybuf_share.specs.Finishing.{numbers_from}
use Rattle.pybuf_sessions.specs.declared.asks.Ask.{Ask}

-- how many sessions there are, which is one more than the greatest number, and at least one
abbrev pub session_count : List Ask → ℕ
session_count [] = 1
session_count (ask ∷ more) = max (ask.session + 1) (session_count more)

-- the commands of session k, in order
abbrev pub script_of : List Ask → ℕ → List LocalCommand
script_of [] k = []
script_of (ask ∷ more) k = if ask.session == k then ask.command ∷ script_of more k else script_of more k

-- a script for each session
abbrev pub scripts_of : List Ask → List (List LocalCommand)
scripts_of asks = map (script_of asks) (numbers_from 0 (session_count asks))

-- The scripts after a command is added to that of a session. Each session before it that has no script gets an
-- empty one.
abbrev pub added : ℕ → LocalCommand → List (List LocalCommand) → List (List LocalCommand)
added zero c [] = (c ∷ []) ∷ []
added zero c (script ∷ more) = (script ++ c ∷ []) ∷ more
added (suc k) c [] = [] ∷ added k c []
added (suc k) c (script ∷ more) = script ∷ added k c more
