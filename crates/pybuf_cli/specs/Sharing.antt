-- What sessions of one exporter may come to, and what is written of that.
use Rattle.std.specs.Prelude.{◌≡◌, ◌≢◌, ◌⊎◌, ℕ, ◌≤◌, Bool, true, false, List, [], length, nat_lt, Option, Some, Result, Ok, Err}
use Rattle.pybuf_state.specs.Exporter.{Exporter}
use Rattle.pybuf_share.specs.declared.entries.Entry.{Entry}
use Rattle.pybuf_share.specs.declared.joined.FinishFault.{FinishFault}
use Rattle.pybuf_share.specs.declared.joined.Joined.{Joined}
use Rattle.pybuf_share.specs.declared.joined.FinishFault.TheVariants as why
use Rattle.pybuf_share.specs.History.{replay, IsLegal}
use Rattle.pybuf_share.specs.Joining.{Joins}
use Rattle.pybuf_share.specs.Running.{IsNotRun}
use Rattle.pybuf_sessions.specs.declared.sessions.Sessions.{Sessions}
use Rattle.pybuf_sessions.specs.Sessions.{sessions_in}
use Rattle.pybuf_histories.specs.Entries.{shared_text}
use Rattle.pybuf_histories.specs.Faults.{fault_text}
use Rattle.pybuf_line.specs.Replies.{bad_line_text}
use Rattle.pybuf_cli.specs.declared.status.Status.{Status}
use Rattle.pybuf_cli.specs.declared.status.Status.TheVariants as status
use Rattle.pybuf_cli.specs.Devices.{Put}
use Rattle.pybuf_cli.specs.Program.{most, ReadsInput, Ended}

-- A text of a history that these sessions may have made. The history is legal from the kind and the bytes that
-- they begin with, and the entries of each session follow its script. The bytes that are written are those of
-- the exporter in which the history ends.
pub record IsShared (s : Sessions) (text : List ℕ) : Type 0 where
  pub entries : List Entry
  pub state : Exporter
  pub legal : IsLegal s.kind s.bytes entries
  pub replays : state ≡ replay s.kind s.bytes entries
  pub joins : Joins s.scripts entries
  pub written : text ≡ shared_text entries state

-- A text that says why these sessions have no history, with the two values that differ or don't rise. If memory
-- ran out, the text is empty.
pub record IsFaulty (s : Sessions) (text : List ℕ) : Type 0 where
  pub fault : FinishFault
  pub shown : IsNotRun s.kind s.bytes s.scripts fault
  pub written : text ≡ fault_text fault

-- A text of what these sessions may come to. Their order in time is open, so there may be many such texts.
abbrev pub IsOfSessions : Sessions → List ℕ → Type 0
IsOfSessions s text = (IsShared s text) ⊎ (IsFaulty s text)

-- A text that may be due for the lines of an input. It is that of the first line that is wrong, or of what the
-- sessions come to. If the input is too long, no text is due.
abbrev pub IsDueOfLines : Bool → Result Sessions ℕ → List ℕ → Type 0
IsDueOfLines true read text = text ≡ []
IsDueOfLines false (Err line) text = text ≡ bad_line_text line
IsDueOfLines false (Ok s) text = IsOfSessions s text

abbrev pub IsDueShared : List ℕ → List ℕ → Type 0
IsDueShared input text = IsDueOfLines (nat_lt most (length input)) (sessions_in input) text

-- how a run may end, if memory suffices and neither the source nor the sink fails
abbrev pub EndsOfLines : Bool → Result Sessions ℕ → Status → Type 0
EndsOfLines true read result = result ≡ status.TooLong
EndsOfLines false (Err line) result = result ≡ status.BadLine
EndsOfLines false (Ok s) result = (result ≡ status.Done) ⊎ (result ≡ status.Disagree)

abbrev pub EndsShared : List ℕ → Status → Type 0
EndsShared input result = EndsOfLines (nat_lt most (length input)) (sessions_in input) result

-- Just the text of a history that the sessions may have made was put.
pub record PutsHistory (s : Sessions) (held_before held : Option (List ℕ)) : Type 0 where
  pub text : List ℕ
  pub shared : IsShared s text
  pub put : Put held_before text held

-- Just the text of a fault was put, with two values that differ or don't rise.
pub record PutsFault (s : Sessions) (held_before held : Option (List ℕ)) : Type 0 where
  pub fault : FinishFault
  pub shown : IsNotRun s.kind s.bytes s.scripts fault
  pub two_values : fault ≢ why.NoMemory
  pub put : Put held_before (fault_text fault) held

-- All of the input was read, its lines are those of sessions, and the text of a history of theirs was put.
pub record IsDoneShared (input : List ℕ) (left held_before held : Option (List ℕ)) : Type 0 where
  pub all_read : left ≡ Some []
  pub short : length input ≤ most
  pub sessions : Sessions
  pub spelled : sessions_in input ≡ Ok sessions
  pub put : PutsHistory sessions held_before held

-- All of the input was read, its lines are those of sessions, and the text of a fault of theirs was put.
pub record IsDisagreed (input : List ℕ) (left held_before held : Option (List ℕ)) : Type 0 where
  pub all_read : left ≡ Some []
  pub short : length input ≤ most
  pub sessions : Sessions
  pub spelled : sessions_in input ≡ Ok sessions
  pub put : PutsFault sessions held_before held

-- All of the input was read, a line of it is the first that is wrong, and just the text that tells the number
-- of that line was put.
pub record IsBadLineShared (input : List ℕ) (left held_before held : Option (List ℕ)) : Type 0 where
  pub all_read : left ≡ Some []
  pub short : length input ≤ most
  pub line : ℕ
  pub first : sessions_in input ≡ Err line
  pub put : Put held_before (bad_line_text line) held

-- The lines of an input are those of sessions, and this was put for them.
abbrev pub SessionsPut : {K : Type 0} → (Sessions → Option (List ℕ) → Option (List ℕ) → Type 0) → List ℕ → (K → Option (List ℕ)) → K → K → Type 0
SessionsPut Is input bytes_held old new = (s : Sessions) × (sessions_in input ≡ Ok s) × Is s (bytes_held old) (bytes_held new)

-- the text of what sessions came to that were put together
abbrev pub joined_text : Joined → List ℕ
joined_text joined = shared_text joined.entries joined.state.exporter

-- What the form `share` promises, if the source tells its bytes.
pub record Shares {S K : Type 0} (result : Status) (bytes_left : S → Option (List ℕ)) (bytes_held : K → Option (List ℕ))
    (source_before source : S) (sink_before sink : K) : Type 0 where
  pub reads : ReadsInput result bytes_left source_before source sink_before sink
  pub done : result ≡ status.Done → Ended IsDoneShared bytes_left source_before source bytes_held sink_before sink
  pub bad_line : result ≡ status.BadLine → Ended IsBadLineShared bytes_left source_before source bytes_held sink_before sink
  pub disagree : result ≡ status.Disagree → Ended IsDisagreed bytes_left source_before source bytes_held sink_before sink
