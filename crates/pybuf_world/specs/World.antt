-- Worlds: exporters, and the handles that name them, their views and their iterators.
use Rattle.std.specs.Prelude.{ℕ, ◌+◌, ◌==◌, Bool, true, false, List, [], ◌∷◌, ◌++◌, length, map, set, slice_get, nat_lt, Option, Some, None, Result, Ok, Err, if◌then◌else◌, ◌≡◌, MatchResult}
use Rattle.std.specs.List.{list_all, position_or_len}
use Rattle.pybuf_value.specs.declared.faults.Fault.{Fault}
use Rattle.pybuf_value.specs.declared.faults.Fault.TheVariants as fault
use Rattle.pybuf_value.specs.declared.snaps.Snap.{Snap}
use Rattle.pybuf_value.specs.declared.snaps.SnapKind.{SnapKind}
use Rattle.pybuf_value.specs.declared.snaps.SnapKind.TheVariants as snap_kind
use Rattle.pybuf_bytes.specs.Options.{bytes_of_options}
use Rattle.pybuf_command.specs.declared.kinds.ExporterKind.{ExporterKind}
use Rattle.pybuf_command.specs.declared.kinds.Subject.{Subject}
use Rattle.pybuf_command.specs.declared.kinds.Subject.TheVariants as subject
use Rattle.pybuf_command.specs.declared.commands.Verb.{Verb}
use Rattle.pybuf_command.specs.declared.commands.LocalReply.{LocalReply}
use Rattle.pybuf_command.specs.declared.commands.LocalReply.TheVariants as local
use Rattle.pybuf_command.specs.declared.loans.Loan.{Loan}
use Rattle.pybuf_command.specs.declared.loans.Loan.TheVariants as loan
use Rattle.pybuf_command.specs.Handles.{handles_of, handles_of_options}
use Rattle.pybuf_state.specs.Exporter.{Exporter, new_exporter, released_in}
use Rattle.pybuf_state.specs.Fresh.{is_readonly_subject, made_of}
use Rattle.pybuf_state.specs.Loans.{loan_of_snap}
use Rattle.pybuf_state.specs.Names.{loan_of_own}
use Rattle.pybuf_state.specs.Snaps.{snap_of_subject}
use Rattle.pybuf_verbs_methods.specs.Names.{all_paired}
use Rattle.pybuf_exporter.specs.Step.{estep}
use Rattle.pybuf_world.specs.declared.named.Named.{Named}
use Rattle.pybuf_world.specs.declared.named.Named.TheVariants as named
use Rattle.pybuf_world.specs.declared.named.Target.{Target}
use Rattle.pybuf_command.specs.declared.options.ByteInnerNewOptions.{ByteInnerNewOptions}
use Rattle.pybuf_command.specs.declared.worlds.Command.{Command}
use Rattle.pybuf_command.specs.declared.worlds.Command.TheVariants as command
use Rattle.pybuf_command.specs.declared.worlds.Reply.{Reply}
use Rattle.pybuf_command.specs.declared.worlds.Reply.TheVariants as reply

-- A world: its exporters, and what each handle names, in order.
pub record World : Type 0 where
  pub exporters : List Exporter
  pub handles : List Named

abbrev pub empty_world : World
empty_world = record { exporters = []; handles = [] }

-- ---- what handles name

-- the exporter that a name names, or the one whose view or iterator it names
abbrev pub exporter_of : Named → ℕ
exporter_of (named.Exporter i) = i
exporter_of (named.View i k) = i
exporter_of (named.Iterator i k) = i

-- which subject of that exporter the name names
abbrev pub subject_of : Named → Subject
subject_of (named.Exporter i) = subject.Own
subject_of (named.View i k) = subject.View k
subject_of (named.Iterator i k) = subject.Iter k

abbrev pub is_name_of : ℕ → Named → Bool
is_name_of i (named.Exporter j) = j == i
is_name_of i (named.View j k) = false
is_name_of i (named.Iterator j k) = false

-- the handle of an exporter, which is the first that names it
abbrev pub handle_of : World → ℕ → ℕ
handle_of w i = position_or_len (is_name_of i) w.handles

-- ---- a new exporter

-- the world with one more exporter and its handle, and that handle
abbrev pub with_exporter : World → Exporter → World × Reply
with_exporter w e = (
  record {
    exporters = w.exporters ++ e ∷ [];
    handles = w.handles ++ named.Exporter (length w.exporters) ∷ [];
  },
  reply.Handle (length w.handles),
)

-- what a handle names, as the world is now
abbrev pub snap_in : Option Exporter → Subject → Option Snap
snap_in (Some e) s = snap_of_subject e s
snap_in None s = None

abbrev pub snap_of_name : World → Option Named → Option Snap
snap_of_name w (Some n) = snap_in (slice_get w.exporters (exporter_of n)) (subject_of n)
snap_of_name w None = None

abbrev pub snap_for : World → ℕ → Option Snap
snap_for w handle = snap_of_name w (slice_get w.handles handle)

-- handles, each with what it names
abbrev pub pairs_of : World → List ℕ → List (ℕ × Snap)
pairs_of w handles = all_paired (snap_for w) handles

-- The bytes that a new exporter is made of. A handle among its options stands for what it names before the
-- command.
abbrev pub bytes_of_new : World → ByteInnerNewOptions → Result (List ℕ) Fault
bytes_of_new w options = bytes_of_options (pairs_of w (handles_of_options options)) options.source options.encoding options.errors

abbrev pub world_with_bytes : World → ExporterKind → Result (List ℕ) Fault → World × Reply
world_with_bytes w k (Ok bytes) = with_exporter w (new_exporter k bytes)
world_with_bytes w k (Err f) = (w, reply.Refused f)

-- whether all of these handles were given
abbrev pub are_given : World → List ℕ → Bool
are_given w handles = list_all (λ handle. nat_lt handle (length w.handles)) handles

-- A new exporter. An unknown handle among its options is refused before all else.
abbrev pub step_of_new : World → ExporterKind → ByteInnerNewOptions → World × Reply
step_of_new w k options =
    if are_given w (handles_of_options options) then world_with_bytes w k (bytes_of_new w options)
    else (w, reply.Refused fault.UnknownName)

-- ---- what the others lend

-- what another exporter lends of a subject, as it is now
abbrev pub loan_of_other : Option Exporter → Subject → Loan
loan_of_other (Some e) s = loan_of_snap (snap_of_subject e s)
loan_of_other None s = loan.Missing

-- What a handle is lent as to an exporter. It may name that exporter itself, a view of it or an iterator over
-- it. Otherwise it names another exporter, or a view or an iterator of one, which is lent as it is now. Nothing
-- is lent for a handle that was never given.
abbrev pub loan_of_name : World → ℕ → Option Named → Loan
loan_of_name w i (Some n) =
    if exporter_of n == i then loan_of_own (subject_of n) else loan_of_other (slice_get w.exporters (exporter_of n)) (subject_of n)
loan_of_name w i None = loan.Missing

abbrev pub loan_for : World → ℕ → ℕ → Loan
loan_for w i handle = loan_of_name w i (slice_get w.handles handle)

-- the loans to an exporter for a command, one for each handle of the command's values, in order
abbrev pub loans_of : World → ℕ → Verb → List (ℕ × Loan)
loans_of w i v = map (λ handle. (handle, loan_for w i handle)) (handles_of v)

-- ---- a command on what a handle names

-- The exporters after a command: its own exporter has changed, and a copy makes one more.
abbrev pub exporters_after : World → Target → Exporter → LocalReply → List Exporter
exporters_after w t e (local.Fresh snap) = set w.exporters t.exporter e ++ made_of (is_readonly_subject e t.subject) snap ∷ []
exporters_after w t e _ = set w.exporters t.exporter e

-- Whether a copy's exporter has a view. The copy of a bytearray has none.
abbrev pub has_view : SnapKind → Bool
has_view snap_kind.ByteArray = false
has_view _ = true

-- the handles with that of the exporter that a copy makes, and with that of its view if it has one
abbrev pub handles_with_copy : Bool → ℕ → List Named → List Named
handles_with_copy true number handles = (handles ++ named.Exporter number ∷ []) ++ named.View number 0 ∷ []
handles_with_copy false number handles = handles ++ named.Exporter number ∷ []

-- the reply with these handles, the first of which is the next one
abbrev pub reply_with_copy : Bool → ℕ → Reply
reply_with_copy true next = reply.Pair next (next + 1)
reply_with_copy false next = reply.Handle next

-- The handles after a reply. A new view or iterator gets the next handle. A new exporter gets the next, and its
-- view the one after that.
abbrev pub handles_after : World → Target → LocalReply → List Named
handles_after w t (local.View k) = w.handles ++ named.View t.exporter k ∷ []
handles_after w t (local.Iter k) = w.handles ++ named.Iterator t.exporter k ∷ []
handles_after w t (local.Fresh snap) = handles_with_copy (has_view snap.kind) (length w.exporters) w.handles
handles_after w t _ = w.handles

-- What the world replies. A new view, iterator or exporter is named by its new handle. The subject and its
-- exporter are named by the handles that they have.
abbrev pub reply_after : World → Target → LocalReply → Reply
reply_after w t local.Ok = reply.Ok
reply_after w t (local.View k) = reply.Handle (length w.handles)
reply_after w t (local.Iter k) = reply.Handle (length w.handles)
reply_after w t local.Itself = reply.Handle t.handle
reply_after w t local.Own = reply.Handle (handle_of w t.exporter)
reply_after w t (local.Item x) = reply.Item x
reply_after w t (local.Items shape items) = reply.Items shape items
reply_after w t (local.Bytes bytes) = reply.Bytes bytes
reply_after w t (local.Text text) = reply.Text text
reply_after w t (local.Shown text) = reply.Shown text
reply_after w t (local.Truth truth) = reply.Truth truth
reply_after w t local.NotImplementedReply = reply.NotImplementedReply
reply_after w t (local.Numbers numbers) = reply.Numbers numbers
reply_after w t (local.ByteLists lists) = reply.ByteLists lists
reply_after w t local.Stop = reply.Stop
reply_after w t (local.Fresh snap) = reply_with_copy (has_view snap.kind) (length w.handles)
reply_after w t (local.Refused f) = reply.Refused f

-- the world after a command on an exporter, and the reply
abbrev pub world_after : World → Target → Exporter × LocalReply → World × Reply
world_after w t after = (
  record { exporters = exporters_after w t after.0 after.1; handles = handles_after w t after.1 },
  reply_after w t after.1,
)

-- a command on an exporter, if that is there, with these loans
abbrev pub step_with_loans : World → Target → Verb → List (ℕ × Loan) → Option Exporter → World × Reply
step_with_loans w t v loans (Some e) = world_after w t (estep e t.subject v loans)
step_with_loans w t v loans None = (w, reply.Refused fault.UnknownName)

-- a command on what a handle names, with the loans of the world as it is before the command
abbrev pub step_of_target : World → Target → Verb → World × Reply
step_of_target w t v = step_with_loans w t v (loans_of w t.exporter v) (slice_get w.exporters t.exporter)

abbrev pub target_of : ℕ → Named → Target
target_of handle n = record { handle = handle; exporter = exporter_of n; subject = subject_of n }

-- a command on a handle, if that was given
abbrev pub step_of_handle : World → ℕ → Verb → Option Named → World × Reply
step_of_handle w handle v (Some n) = step_of_target w (target_of handle n) v
step_of_handle w handle v None = (w, reply.Refused fault.UnknownName)

-- ---- commands

-- the world after a command, and its reply
abbrev pub wstep : World → Command → World × Reply
wstep w (command.New k options) = step_of_new w k options
wstep w (command.Do handle v) = step_of_handle w handle v (slice_get w.handles handle)

-- the world after a list of commands
abbrev pub world_after_all : World → List Command → World
world_after_all w [] = w
world_after_all w (c ∷ cs) = world_after_all (wstep w c).0 cs

-- the replies to a list of commands, in order
abbrev pub replies_of : World → List Command → List Reply
replies_of w [] = []
replies_of w (c ∷ cs) = (wstep w c).1 ∷ replies_of (wstep w c).0 cs

-- ---- a release by a handle

-- the world after a release changed the exporter that has this number
abbrev pub world_with_released : World → ℕ → Result Exporter Fault → Result World Fault
world_with_released w i (Ok e) = Ok (record w { exporters = set w.exporters i e })
world_with_released w i (Err f) = Err f

abbrev pub released_in_exporter : World → ℕ → ℕ → Option Exporter → Result World Fault
released_in_exporter w i k (Some e) = world_with_released w i (released_in e k)
released_in_exporter w i k None = Err fault.UnknownName

abbrev pub released_by_name : World → Option Named → Result World Fault
released_by_name w (Some (named.View i k)) = released_in_exporter w i k (slice_get w.exporters i)
released_by_name w (Some (named.Exporter i)) = Err fault.UnknownName
released_by_name w (Some (named.Iterator i k)) = Err fault.UnknownName
released_by_name w None = Err fault.UnknownName

-- the world after the view that a handle names is released, if it names one
abbrev pub released_by : World → ℕ → Result World Fault
released_by w handle = released_by_name w (slice_get w.handles handle)

-- whether a name was given and is that of a view
abbrev pub is_name_of_view : Option Named → Bool
is_name_of_view (Some (named.View i k)) = true
is_name_of_view (Some (named.Exporter i)) = false
is_name_of_view (Some (named.Iterator i k)) = false
is_name_of_view None = false

-- whether a handle was given and names a view
abbrev pub names_view : World → ℕ → Bool
names_view w handle = is_name_of_view (slice_get w.handles handle)

-- a call gives what is due, or refuses as is due
abbrev pub GivesOrRefuses : {A W : Type 0} → Result W Fault → W → Result A Fault → Type 0
GivesOrRefuses due given result = MatchResult result (λ _. due ≡ Ok given) (λ f. due ≡ Err f)
