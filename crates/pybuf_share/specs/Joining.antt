-- Scripts of sessions, and histories that join what the sessions did.
use Rattle.std.specs.Prelude.{◌≡◌, ◌<◌, ℕ, ◌-◌, ◌^◌, ◌==◌, List, [], ◌∷◌, ◌++◌, length, map, Option, Some, None, slice_get, if◌then◌else◌}
use Rattle.std.specs.List.{flat_map, All}
use Rattle.pybuf_command.specs.declared.commands.LocalCommand.{LocalCommand}
use Rattle.pybuf_command.specs.declared.commands.LocalReply.{LocalReply}
use Rattle.pybuf_command.specs.declared.kinds.Subject.{Subject}
use Rattle.pybuf_command.specs.declared.kinds.Subject.TheVariants as subject
use Rattle.pybuf_command.specs.declared.loans.Loan.{Loan}
use Rattle.pybuf_command.specs.declared.loans.Loan.TheVariants as loan
use Rattle.pybuf_share.specs.declared.entries.Entry.{Entry}
use Rattle.pybuf_share.specs.Sessions.{view_given, iterator_given}

-- The number of the k-th view or iterator that was given. If fewer were given, this is a number that no view
-- and no iterator has.
abbrev pub given_or_none : Option ℕ → ℕ
given_or_none (Some number) = number
given_or_none None = 2 ^ 64 - 1

-- A subject of a script, whose number counts the views or the iterators that a session was given. The replies
-- say which these are.
abbrev pub resolved_subject : List LocalReply → Subject → Subject
resolved_subject replies subject.Own = subject.Own
resolved_subject replies (subject.View k) = subject.View (given_or_none (slice_get (flat_map view_given replies) k))
resolved_subject replies (subject.Iter k) = subject.Iter (given_or_none (slice_get (flat_map iterator_given replies) k))

-- what a view is lent as, which may or may not have been given
abbrev pub view_lent : Option ℕ → Loan
view_lent (Some number) = loan.View number
view_lent None = loan.Missing

abbrev pub iterator_lent : Option ℕ → Loan
iterator_lent (Some number) = loan.Iter number
iterator_lent None = loan.Missing

-- A loan of a script, whose number counts what a session was given. What it wasn't given yet is missing.
abbrev pub resolved_loan : List LocalReply → Loan → Loan
resolved_loan replies (loan.View k) = view_lent (slice_get (flat_map view_given replies) k)
resolved_loan replies (loan.Iter k) = iterator_lent (slice_get (flat_map iterator_given replies) k)
resolved_loan replies loan.Own = loan.Own
resolved_loan replies (loan.Other snap) = loan.Other snap
resolved_loan replies loan.Missing = loan.Missing

abbrev pub resolved_loans : List LocalReply → List (ℕ × Loan) → List (ℕ × Loan)
resolved_loans replies loans = map (λ pair. (pair.0, resolved_loan replies pair.1)) loans

-- a command of a script, whose views and iterators are named as the replies to its session so far name them
abbrev pub resolve : LocalCommand → List LocalReply → LocalCommand
resolve command replies = record command {
  subject = resolved_subject replies command.subject;
  loans = resolved_loans replies command.loans;
}

-- the commands of a script, whose views and iterators are each named as the replies to the commands before name
-- them
abbrev pub resolved_from : List LocalReply → List LocalReply → List LocalCommand → List LocalCommand
resolved_from before replies [] = []
resolved_from before [] (command ∷ commands) = resolve command before ∷ resolved_from before [] commands
resolved_from before (reply ∷ replies) (command ∷ commands) = resolve command before ∷ resolved_from (before ++ reply ∷ []) replies commands

-- Entries follow a script if there are as many, and each entry's command is that of the script. Its views and
-- iterators are named as the replies of the entries before name them.
abbrev pub Follows : List Entry → List LocalCommand → Type 0
Follows entries script = map (λ x. x.command) entries ≡ resolved_from [] (map (λ x. x.reply) entries) script

-- the entries of a session, in order
abbrev pub entries_of : ℕ → List Entry → List Entry
entries_of session [] = []
entries_of session (x ∷ xs) = if x.session == session then x ∷ entries_of session xs else entries_of session xs

-- Entries join scripts if each entry's session has a script, and the entries of each session that has one
-- follow it.
pub record Joins (scripts : List (List LocalCommand)) (entries : List Entry) : Type 0 where
  pub known : All (λ x. x.session < length scripts) entries
  pub each : (session : ℕ) (script : List LocalCommand) → slice_get scripts session ≡ Some script → Follows (entries_of session entries) script
