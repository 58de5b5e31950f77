-- Handles, views and iterators that were never given, wherever a call takes one.
use Rattle.std.specs.Prelude.{◌≡◌, ◌==◌, ℕ, Bool, true, false, List, Option, Some, None, Err}
use Rattle.std.specs.List.{list_any}
use Rattle.pybuf_value.specs.declared.faults.Fault.TheVariants as fault
use Rattle.pybuf_value.specs.declared.values.Scalar.TheVariants as scalar
use Rattle.pybuf_value.specs.declared.values.Value.{Value}
use Rattle.pybuf_value.specs.declared.values.Value.TheVariants as value
use Rattle.pybuf_value.specs.declared.values.PySlice.{PySlice}
use Rattle.pybuf_value.specs.declared.snaps.Snap.{Snap}
use Rattle.pybuf_value.specs.Snaps.{snap_of, like_in, bytes_in, bytes_alone}
use Rattle.pybuf_search.specs.Affixes.{single_or_any_of}
use Rattle.pybuf_shaping.specs.Arguments.{fill_in, translation}
use Rattle.pybuf_bytes.specs.Needles.{needle_in}
use Rattle.pybuf_bytes.specs.Searching.{concat_of}
use Rattle.pybuf_bytes.specs.Options.{bytes_of_options}
use Rattle.pybuf_command.specs.declared.kinds.Subject.{Subject}
use Rattle.pybuf_command.specs.declared.kinds.Subject.TheVariants as subject
use Rattle.pybuf_command.specs.declared.commands.Verb.{Verb}
use Rattle.pybuf_command.specs.declared.commands.LocalReply.TheVariants as reply
use Rattle.pybuf_command.specs.declared.loans.Loan.{Loan}
use Rattle.pybuf_command.specs.Handles.{handles_of}
use Rattle.pybuf_state.specs.Exporter.{Exporter, has_subject}
use Rattle.pybuf_state.specs.Loans.{is_named, are_named, are_known}
use Rattle.pybuf_state.specs.Snaps.{snap_of_subject}
use Rattle.pybuf_verbs_writes.specs.Assign.{assign_of_lent}
use Rattle.pybuf_exporter.specs.Step.{estep, estep_by}

-- One of the handles in a command's values names nothing. Either nothing is lent for it, or it is lent as a
-- view or an iterator that the exporter never gave.
pub record HasUnknownHandle (e : Exporter) (v : Verb) (named : ℕ → Option Loan) : Type 0 where
  pub handle : ℕ
  pub held : list_any (λ (given : ℕ). given == handle) (handles_of v) ≡ true
  pub unknown : is_named e (named handle) ≡ false

-- ---- commands

-- What was never given is refused with `UnknownName`, and the exporter stays as it was. This holds for every
-- command on every subject if a handle names nothing, even if the command wouldn't look at the value that has
-- it: by what each handle is lent as (`names`, and `one` says that one such handle is enough), and by loans
-- (`loans`). It holds for every command on a view or an iterator that was never given (`subjects`). It also
-- holds if a view of another exporter is assigned from, which is lent without a handle (`assigned`).
pub record UnknownHandlesAreRefused : Type 0 where
  pub one : (e : Exporter) (v : Verb) (named : ℕ → Option Loan) → HasUnknownHandle e v named → are_named e named (handles_of v) ≡ false
  pub names : (e : Exporter) (s : Subject) (v : Verb) (named : ℕ → Option Loan) → are_named e named (handles_of v) ≡ false → estep_by e s v named ≡ (e, reply.Refused fault.UnknownName)
  pub loans : (e : Exporter) (s : Subject) (v : Verb) (loans : List (ℕ × Loan)) → are_known e loans (handles_of v) ≡ false → estep e s v loans ≡ (e, reply.Refused fault.UnknownName)
  pub subjects : (e : Exporter) (s : Subject) (v : Verb) (loans : List (ℕ × Loan)) → has_subject e s ≡ false → estep e s v loans ≡ (e, reply.Refused fault.UnknownName)
  pub assigned : (e lender : Exporter) (k j : ℕ) (slice : PySlice) → has_subject lender (subject.View j) ≡ false → assign_of_lent e k slice (snap_of_subject lender (subject.View j)) ≡ Err fault.UnknownName

-- ---- calls without an exporter, which get pairs of handles and snaps in place of loans

-- A handle by itself is refused with `UnknownName` in each place where such a call reads bytes: as the source of new bytes,
-- as bytes that are borrowed, read or packed, as what is searched for, added, or tested to be a prefix or suffix, as a
-- fill byte, and as the table of a translation.
pub record IsRefusedUnlent (pairs : List (ℕ × Snap)) (handle : ℕ) : Type 0 where
  pub source : bytes_of_options pairs (Some (value.One (scalar.Handle handle))) None None ≡ Err fault.UnknownName
  pub borrowed : like_in pairs (value.One (scalar.Handle handle)) ≡ Err fault.UnknownName
  pub read : bytes_in pairs (value.One (scalar.Handle handle)) ≡ Err fault.UnknownName
  pub packed : bytes_alone pairs (scalar.Handle handle) ≡ Err fault.UnknownName
  pub sought : needle_in pairs (value.One (scalar.Handle handle)) ≡ Err fault.UnknownName
  pub added : (bytes : List ℕ) → concat_of pairs (value.One (scalar.Handle handle)) bytes ≡ Err fault.UnknownName
  pub tested : (test : List ℕ → Bool) → single_or_any_of test pairs (value.One (scalar.Handle handle)) ≡ Err fault.UnknownName
  pub filled : fill_in pairs (value.One (scalar.Handle handle)) ≡ Err fault.UnknownName
  pub mapped : (delete : Option Value) (bytes : List ℕ) → translation pairs (Some (value.One (scalar.Handle handle))) delete bytes ≡ Err fault.UnknownName

-- This holds for every handle that no pair has.
abbrev pub UnlentHandlesAreRefused : Type 0
UnlentHandlesAreRefused = (pairs : List (ℕ × Snap)) (handle : ℕ) → snap_of pairs handle ≡ None → IsRefusedUnlent pairs handle
