-- What the sessions come to, and what was put of that.
use Rattle.std.proofs.Common.{◌≡◌, ◌⊎◌, ℕ, ◌<◌, ◌≤◌, Bool, true, false, List, [], length, nat_lt, Option, Some, Result, Ok, Err, inl, inr, refl, sym, ◌∙◌, ap, subst, arith}
use Rattle.std.proofs.lemmas.Bool.{le-ltb, lt-ltb}
use Rattle.pybuf_share.specs.declared.joined.Joined.{Joined}
use Rattle.pybuf_share.specs.declared.joined.FinishFault.TheVariants as why
use Rattle.pybuf_share.specs.Running.{IsRun}
use Rattle.pybuf_sessions.specs.declared.sessions.Sessions.{Sessions}
use Rattle.pybuf_sessions.specs.Sessions.{sessions_in}
use Rattle.pybuf_histories.specs.Entries.{shared_text}
use Rattle.pybuf_line.specs.Replies.{bad_line_text}
use Rattle.pybuf_cli.specs.declared.status.Status.{Status}
use Rattle.pybuf_cli.specs.declared.status.Status.TheVariants as status
use Rattle.pybuf_cli.specs.Devices.{Took, AtEnd, Put, PutPrefix, PutsFrontOf}
use Rattle.pybuf_cli.specs.Program.{most}
use Rattle.pybuf_cli.specs.Sharing.{IsShared, IsOfSessions, IsDueOfLines, IsDueShared, EndsOfLines, EndsShared, PutsHistory, PutsFault, IsDoneShared, IsBadLineShared, IsDisagreed}
use Rattle.pybuf_cli.proofs.Sending.{put_nothing, put_front}
use Rattle.pybuf_cli.proofs.Served.{took_all}

-- The text of the history that joins them is that of a history of these sessions.
pub shared_of_run : (s : Sessions) (joined : Joined) → IsRun s.kind s.bytes s.scripts joined →
    IsShared s (shared_text joined.entries joined.state.exporter)
shared_of_run s joined run = record {
  entries = joined.entries;
  state = joined.state.exporter;
  legal = run.joined_of.legal;
  replays = run.joined_of.replays;
  joins = run.joins;
  written = refl;
}

pub puts_history : (s : Sessions) (joined : Joined) (old new : Option (List ℕ)) → IsRun s.kind s.bytes s.scripts joined →
    Put old (shared_text joined.entries joined.state.exporter) new → PutsHistory s old new
puts_history s joined old new run put = record { text = _; shared = shared_of_run s joined run; put = put }

-- What holds for the lines that were read holds for the input.
pub front_of_lines : (read : Result Sessions ℕ) (s : Sessions) (old new : Option (List ℕ)) → read ≡ Ok s →
    PutsFrontOf (λ text. IsOfSessions s text) old new → PutsFrontOf (λ text. IsDueOfLines false read text) old new
front_of_lines read s old new is front =
    subst (λ (r : Result Sessions ℕ). PutsFrontOf (λ text. IsDueOfLines false r text) old new) (sym is)
    (record { text = front.text; due = front.due; front = front.front })

put_none : (old : Option (List ℕ)) (text : List ℕ) → PutPrefix old text old
put_none old text = put_front old old text [] text refl (put_nothing old)

-- The empty text is the front of every text.
pub nothing_of_lines : (long : Bool) (read : Result Sessions ℕ) (old : Option (List ℕ)) → PutsFrontOf (λ text. IsDueOfLines long read text) old old
nothing_of_lines true read old = record { text = []; due = refl; front = put_none old [] }
nothing_of_lines false (Err line) old = record { text = bad_line_text line; due = refl; front = put_none old (bad_line_text line) }
nothing_of_lines false (Ok s) old =
    record { text = []; due = inr (record { fault = why.NoMemory; shown = tt; written = refl }); front = put_none old [] }

pub nothing_shared : (input : List ℕ) (old : Option (List ℕ)) → PutsFrontOf (λ text. IsDueShared input text) old old
nothing_shared input old = nothing_of_lines (nat_lt most (length input)) (sessions_in input) old

-- The lines that were read are those of the input, which isn't too long.
pub front_shared : (old new held_before held : Option (List ℕ)) (input bytes lent : List ℕ) → Took old bytes new → AtEnd new →
    length bytes ≤ most → lent ≡ bytes → PutsFrontOf (λ text. IsDueOfLines false (sessions_in lent) text) held_before held →
    old ≡ Some input → PutsFrontOf (λ text. IsDueShared input text) held_before held
front_shared old new held_before held input bytes lent took end short same front told =
    let all = took_all old new input bytes took end told in
    let fits : nat_lt most (length bytes) ≡ false = le-ltb most (length bytes) short in
    subst (λ (x : List ℕ). PutsFrontOf (λ text. IsDueOfLines (nat_lt most (length x)) (sessions_in x) text) held_before held) all.0
    (subst (λ (long : Bool). PutsFrontOf (λ text. IsDueOfLines long (sessions_in bytes) text) held_before held) (sym fits)
    (subst (λ (x : List ℕ). PutsFrontOf (λ text. IsDueOfLines false (sessions_in x) text) held_before held) same front))

pub done_shared : (old new held_before held : Option (List ℕ)) (input bytes lent : List ℕ) → Took old bytes new → AtEnd new →
    length bytes ≤ most → lent ≡ bytes →
    ((s : Sessions) × (sessions_in lent ≡ Ok s) × PutsHistory s held_before held) →
    old ≡ Some input → IsDoneShared input new held_before held
done_shared old new held_before held input bytes lent took end short same done told =
    let all = took_all old new input bytes took end told in
    record {
      all_read = all.1;
      short = omega (arith, short, ap length all.0);
      sessions = done.0;
      spelled = sym (ap sessions_in (same ∙ all.0)) ∙ done.1;
      put = done.2;
    }

pub disagreed : (old new held_before held : Option (List ℕ)) (input bytes lent : List ℕ) → Took old bytes new → AtEnd new →
    length bytes ≤ most → lent ≡ bytes →
    ((s : Sessions) × (sessions_in lent ≡ Ok s) × PutsFault s held_before held) →
    old ≡ Some input → IsDisagreed input new held_before held
disagreed old new held_before held input bytes lent took end short same fault told =
    let all = took_all old new input bytes took end told in
    record {
      all_read = all.1;
      short = omega (arith, short, ap length all.0);
      sessions = fault.0;
      spelled = sym (ap sessions_in (same ∙ all.0)) ∙ fault.1;
      put = fault.2;
    }

pub bad_line_shared : (old new held_before held : Option (List ℕ)) (input bytes lent : List ℕ) → Took old bytes new → AtEnd new →
    length bytes ≤ most → lent ≡ bytes →
    ((line : ℕ) × (sessions_in lent ≡ Err line) × Put held_before (bad_line_text line) held) →
    old ≡ Some input → IsBadLineShared input new held_before held
bad_line_shared old new held_before held input bytes lent took end short same bad told =
    let all = took_all old new input bytes took end told in
    record {
      all_read = all.1;
      short = omega (arith, short, ap length all.0);
      line = bad.0;
      first = sym (ap sessions_in (same ∙ all.0)) ∙ bad.1;
      put = bad.2;
    }

-- A run for the lines of an input ends with no other status.
abbrev pub is_answer : Status → Type 0
is_answer status.Done = Unit {0}
is_answer status.BadLine = Unit {0}
is_answer status.Disagree = Unit {0}
is_answer status.NoMemory = Unit {0}
is_answer status.WriteFault = Unit {0}
is_answer _ = ⊥

pub answers_so : (read : Result Sessions ℕ) (result other : Status) →
    (EndsOfLines false read result) ⊎ ((result ≡ status.NoMemory) ⊎ (result ≡ status.WriteFault)) → result ≡ other → is_answer other
answers_so (Ok s) result other (inl (inl done)) is = subst is_answer (sym done ∙ is) tt
answers_so (Ok s) result other (inl (inr fault)) is = subst is_answer (sym fault ∙ is) tt
answers_so (Err line) result other (inl bad) is = subst is_answer (sym bad ∙ is) tt
answers_so read result other (inr (inl none)) is = subst is_answer (sym none ∙ is) tt
answers_so read result other (inr (inr failed)) is = subst is_answer (sym failed ∙ is) tt

ends_or_fails : (read : Result Sessions ℕ) (result : Status) (Writes : Type 0) →
    (EndsOfLines false read result) ⊎ ((result ≡ status.NoMemory) ⊎ (result ≡ status.WriteFault)) → (result ≡ status.WriteFault → Writes) →
    ¬ Writes → (EndsOfLines false read result) ⊎ (result ≡ status.NoMemory)
ends_or_fails read result Writes (inl ended) rose fine = inl ended
ends_or_fails read result Writes (inr (inl none)) rose fine = inr none
ends_or_fails read result Writes (inr (inr failed)) rose fine = absurd (fine (rose failed))

-- If nothing fails, the status is one that the input calls for, or want of memory.
pub complete_shared : (old new : Option (List ℕ)) (input bytes lent : List ℕ) (result : Status) (Writes : Type 0) → Took old bytes new → AtEnd new →
    length bytes ≤ most → lent ≡ bytes →
    ((EndsOfLines false (sessions_in lent) result) ⊎ ((result ≡ status.NoMemory) ⊎ (result ≡ status.WriteFault))) →
    (result ≡ status.WriteFault → Writes) → old ≡ Some input → ¬ Writes → (EndsShared input result) ⊎ (result ≡ status.NoMemory)
complete_shared old new input bytes lent result Writes took end short same ended rose told fine =
    let all = took_all old new input bytes took end told in
    let fits : nat_lt most (length bytes) ≡ false = le-ltb most (length bytes) short in
    let so : (EndsOfLines false (sessions_in lent) result) ⊎ (result ≡ status.NoMemory) =
    ends_or_fails (sessions_in lent) result Writes ended rose fine in
    subst (λ (x : List ℕ). (EndsOfLines (nat_lt most (length x)) (sessions_in x) result) ⊎ (result ≡ status.NoMemory)) all.0
    (subst (λ (long : Bool). (EndsOfLines long (sessions_in bytes) result) ⊎ (result ≡ status.NoMemory)) (sym fits)
    (subst (λ (x : List ℕ). (EndsOfLines false (sessions_in x) result) ⊎ (result ≡ status.NoMemory)) same so))

-- If one byte too many of an input was taken, the input is too long.
pub ends_too_long : (input : List ℕ) → most < length input → EndsShared input status.TooLong
ends_too_long input long =
    subst (λ (b : Bool). EndsOfLines b (sessions_in input) status.TooLong) (sym (lt-ltb most (length input) long)) refl

-- The sessions end with a status with which their lines may end.
pub ends_of_sessions : (read : Result Sessions ℕ) (s : Sessions) (result : Status) → read ≡ Ok s →
    ((result ≡ status.Done) ⊎ (result ≡ status.Disagree)) ⊎ ((result ≡ status.NoMemory) ⊎ (result ≡ status.WriteFault)) →
    (EndsOfLines false read result) ⊎ ((result ≡ status.NoMemory) ⊎ (result ≡ status.WriteFault))
ends_of_sessions read s result is ended =
    subst (λ (r : Result Sessions ℕ). (EndsOfLines false r result) ⊎ ((result ≡ status.NoMemory) ⊎ (result ≡ status.WriteFault))) (sym is) ended
