-- A worker carries out the script of a session, one command after the other.
use Rattle.std.specs.Prelude.{◌≡◌, ◌≤◌, ℕ, zero, suc, true, List, [], ◌∷◌, length, map, take}
use Rattle.std.specs.List.{All}
use Rattle.pybuf_command.specs.declared.commands.LocalCommand.{LocalCommand}
use Rattle.pybuf_state.specs.Fits.{LoansFit}
use Rattle.pybuf_share.specs.Sessions.{Asker, new_session}
use Rattle.pybuf_share.specs.Joining.{Follows}

-- What is lent to each command of a script fits.
abbrev pub ScriptFits : List LocalCommand → Type 0
ScriptFits script = All (λ c. LoansFit c.loans) script

-- A worker: its session, its script, and how many commands of the script it has carried out.
pub record Work : Type 0 where
  pub asker : Asker
  pub script : List LocalCommand
  pub done : ℕ

-- the worker of a new session that has this number, and none of the script is done
abbrev pub new_work : ℕ → List LocalCommand → Work
new_work k script = record { asker = new_session k; script = script; done = 0 }

-- a worker for each script, and their sessions are numbered from k on
abbrev pub works_from : ℕ → List (List LocalCommand) → List Work
works_from k [] = []
works_from k (script ∷ scripts) = new_work k script ∷ works_from (suc k) scripts

-- What holds of a worker, whatever other workers do. The receipts of its session are its own, and each came
-- from a call. They follow the commands of its script that are done, which are the first ones.
pub record IsWorking (w : Work) : Type 0 where
  pub fit : ScriptFits w.script
  pub within : w.done ≤ length w.script
  pub plain : w.asker.is_plain ≡ true
  pub own : All (λ r. r.entry.session ≡ w.asker.number) w.asker.receipts
  pub follows : Follows (map (λ r. r.entry) w.asker.receipts) (take w.done w.script)

-- What stays of a worker while it works: the number of its session, how many parts of the ledger that has, and
-- the script.
pub record Post : Type 0 where
  pub number : ℕ
  pub parts : ℕ
  pub script : List LocalCommand

abbrev pub post_of : Work → Post
post_of w = record { number = w.asker.number; parts = w.asker.parts; script = w.script }

-- A session has carried out a script. Each of its receipts is its own and came from a call, and they follow the
-- script.
pub record HasDone (script : List LocalCommand) (s : Asker) : Type 0 where
  pub plain : s.is_plain ≡ true
  pub own : All (λ r. r.entry.session ≡ s.number) s.receipts
  pub follows : Follows (map (λ r. r.entry) s.receipts) script

-- The sessions have carried out the scripts, in order.
abbrev pub HaveDone : List (List LocalCommand) → List Asker → Type 0
HaveDone [] [] = Unit {0}
HaveDone (script ∷ scripts) (s ∷ ss) = HasDone script s × HaveDone scripts ss
HaveDone _ _ = ⊥
