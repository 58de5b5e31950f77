-- Forms whose input is data: what text is due if the input isn't too long, how the run ends, and what the
-- program promises if there is no memory to read its words.
use Rattle.std.proofs.Common.{◌≡◌, ◌⊎◌, ℕ, ◌<◌, ◌≤◌, Bool, true, false, cond, List, [], length, Option, Some, inl, inr, refl, sym, ◌∙◌, ap, subst, arith}
use Rattle.std.specs.Prelude.{nat_lt}
use Rattle.std.proofs.lemmas.Bool.{le-ltb, lt-ltb}
use Rattle.pybuf_table_lines.specs.Listings.{Listing}
use Rattle.pybuf_nd_lines.specs.Selections.{Selection}
use Rattle.pybuf_cli.specs.declared.forms.Form.{Form}
use Rattle.pybuf_cli.specs.declared.forms.Form.TheVariants as form
use Rattle.pybuf_cli.specs.declared.status.Status.{Status}
use Rattle.pybuf_cli.specs.declared.status.Status.TheVariants as status
use Rattle.pybuf_cli.specs.Devices.{Took, AtEnd, PutPrefix}
use Rattle.pybuf_cli.specs.Program.{most, TakesData, TakesFront, ReadsInput}
use Rattle.pybuf_cli.specs.Tables.{table_text}
use Rattle.pybuf_cli.specs.Nd.{nd_text}
use Rattle.pybuf_cli.specs.Serving.{Owes, IsDue, ServesForm}
use Rattle.pybuf_cli.proofs.Sending.{put_nothing, put_front}
use Rattle.pybuf_cli.proofs.Served.{took_all}

-- ---- how the run ends

-- the status by whether the length fits, if memory suffices and neither the source nor the sink fails
abbrev pub ending_where : Bool → Status
ending_where fits = cond fits status.Done status.BadData

-- A run over data ends with no other status.
abbrev pub is_data_answer : Status → Type 0
is_data_answer status.Done = Unit {0}
is_data_answer status.BadData = Unit {0}
is_data_answer status.NoMemory = Unit {0}
is_data_answer status.WriteFault = Unit {0}
is_data_answer _ = ⊥

ended_so : (fits : Bool) → is_data_answer (ending_where fits)
ended_so true = tt
ended_so false = tt

pub data_answers_so : (fits : Bool) (result other : Status) →
    (result ≡ ending_where fits) ⊎ ((result ≡ status.NoMemory) ⊎ (result ≡ status.WriteFault)) → result ≡ other → is_data_answer other
data_answers_so fits result other (inl ended) is = subst is_data_answer (sym ended ∙ is) (ended_so fits)
data_answers_so fits result other (inr (inl none)) is = subst is_data_answer (sym none ∙ is) tt
data_answers_so fits result other (inr (inr failed)) is = subst is_data_answer (sym failed ∙ is) tt

-- ---- what was read and put, if the source tells its bytes: the bytes that were read are those of the input,
-- which isn't too long

pub data_front : (due : List ℕ → List ℕ) (old new held_before held : Option (List ℕ)) (input bytes lent : List ℕ) → Took old bytes new → AtEnd new →
    length bytes ≤ most → lent ≡ bytes → PutPrefix held_before (due lent) held → old ≡ Some input →
    PutPrefix held_before (cond (nat_lt most (length input)) [] (due input)) held
data_front due old new held_before held input bytes lent took end short same front told =
    let all = took_all old new input bytes took end told in
    let one : lent ≡ input = same ∙ all.0 in
    let fits : nat_lt most (length input) ≡ false = le-ltb most (length input) (omega (arith, short, ap length all.0)) in
    subst (λ (x : List ℕ). PutPrefix held_before x held)
    (ap due one ∙ sym (ap (λ (long : Bool). cond long [] (due input)) fits)) front

data_ends : (ended result : Status) (Writes : Type 0) →
    (result ≡ ended) ⊎ ((result ≡ status.NoMemory) ⊎ (result ≡ status.WriteFault)) → (result ≡ status.WriteFault → Writes) →
    ¬ Writes → (result ≡ ended) ⊎ (result ≡ status.NoMemory)
data_ends ended result Writes (inl so) rose fine = inl so
data_ends ended result Writes (inr (inl none)) rose fine = inr none
data_ends ended result Writes (inr (inr failed)) rose fine = absurd (fine (rose failed))

pub data_complete : (ending : List ℕ → Status) (old new : Option (List ℕ)) (input bytes lent : List ℕ) (result : Status) (Writes : Type 0) → Took old bytes new →
    AtEnd new → length bytes ≤ most → lent ≡ bytes →
    ((result ≡ ending lent) ⊎ ((result ≡ status.NoMemory) ⊎ (result ≡ status.WriteFault))) →
    (result ≡ status.WriteFault → Writes) → old ≡ Some input → ¬ Writes →
    (result ≡ cond (nat_lt most (length input)) status.TooLong (ending input)) ⊎ (result ≡ status.NoMemory)
data_complete ending old new input bytes lent result Writes took end short same ended rose told fine =
    let all = took_all old new input bytes took end told in
    let one : lent ≡ input = same ∙ all.0 in
    let fits : nat_lt most (length input) ≡ false = le-ltb most (length input) (omega (arith, short, ap length all.0)) in
    subst (λ (x : Status). (result ≡ x) ⊎ (result ≡ status.NoMemory))
    (ap ending one ∙ sym (ap (λ (long : Bool). cond long status.TooLong (ending input)) fits))
    (data_ends (ending lent) result Writes ended rose fine)

pub data_too_long : (ending : List ℕ → Status) (input : List ℕ) → most < length input →
    status.TooLong ≡ cond (nat_lt most (length input)) status.TooLong (ending input)
data_too_long ending input long = sym (ap (λ (b : Bool). cond b status.TooLong (ending input)) (lt-ltb most (length input) long))

pub nothing_put : (old : Option (List ℕ)) (text : List ℕ) → PutPrefix old text old
nothing_put old text = put_front old old text [] text refl (put_nothing old)

-- ---- words for which there is no memory

abbrev pub is_no_memory : Status → Type 0
is_no_memory status.NoMemory = Unit {0}
is_no_memory _ = ⊥

pub no_memory_so : (other : Status) → status.NoMemory ≡ other → is_no_memory other
no_memory_so other e = subst is_no_memory e tt

no_memory_takes_front : (old : Option (List ℕ)) (input : List ℕ) → old ≡ Some input → TakesFront input status.NoMemory old
no_memory_takes_front old input told = record {
  count = 0;
  within = omega arith;
  bounded = omega arith;
  rest = told;
  too_long = (λ e. absurd (no_memory_so status.TooLong e), λ e. absurd (omega (arith, e)));
}

no_memory_reads : {S K : Type 0} (bytes_left : S → Option (List ℕ)) (source : S) (sink : K) → ReadsInput status.NoMemory bytes_left source source sink sink
no_memory_reads bytes_left source sink = record {
  too_long = λ e. absurd (no_memory_so status.TooLong e);
  takes_front = λ input told. no_memory_takes_front (bytes_left source) input told;
  unread_writes_nothing = λ rest told some. refl;
}

-- If nothing was read and nothing put, each form's promises hold but for those that are its own.
no_memory_form : {S K : Type 0} (f : Form) (due : List ℕ → List ℕ) (bytes_left : S → Option (List ℕ)) (source_faults : S → ℕ) (bytes_held : K → Option (List ℕ))
    (sink_faults : K → ℕ) (source : S) (sink : K) → ((input : List ℕ) → IsDue f input (due input)) →
    Owes f status.NoMemory bytes_left bytes_held source source sink sink →
    ServesForm f status.NoMemory bytes_left source_faults bytes_held sink_faults source source sink sink
no_memory_form f due bytes_left source_faults bytes_held sink_faults source sink is own = record {
  own = own;
  prefix = λ input told. record { text = due input; due = is input; front = nothing_put (bytes_held sink) (due input) };
  complete = λ input told fine fine_sink. inr refl;
  read_fault = λ e. absurd (no_memory_so status.ReadFault e);
  write_fault = λ e. absurd (no_memory_so status.WriteFault e);
  read_fault_writes_nothing = λ e. absurd (no_memory_so status.ReadFault e);
  too_long_writes_nothing = λ e. absurd (no_memory_so status.TooLong e);
  disagree = λ e. absurd (no_memory_so status.Disagree e);
  bad_data = λ e. absurd (no_memory_so status.BadData e);
}

pub no_memory_serves : {S K : Type 0} (f : Form) (bytes_left : S → Option (List ℕ)) (source_faults : S → ℕ) (bytes_held : K → Option (List ℕ))
    (sink_faults : K → ℕ) (source : S) (sink : K) → TakesData f →
    ServesForm f status.NoMemory bytes_left source_faults bytes_held sink_faults source source sink sink
no_memory_serves form.Run bytes_left source_faults bytes_held sink_faults source sink takes = absurd takes
no_memory_serves form.Share bytes_left source_faults bytes_held sink_faults source sink takes = absurd takes
no_memory_serves (form.Make n) bytes_left source_faults bytes_held sink_faults source sink takes = absurd takes
no_memory_serves (form.Array c) bytes_left source_faults bytes_held sink_faults source sink takes = absurd takes
no_memory_serves (form.Table l) bytes_left source_faults bytes_held sink_faults source sink takes =
    no_memory_form (form.Table l) (table_text l) bytes_left source_faults bytes_held sink_faults source sink (λ input. refl) (record {
      reads = no_memory_reads bytes_left source sink;
      done = λ e. absurd (no_memory_so status.Done e);
      bad_data = λ e. absurd (no_memory_so status.BadData e);
      bad_line = no_memory_so status.BadLine;
    })
no_memory_serves (form.Nd s) bytes_left source_faults bytes_held sink_faults source sink takes =
    no_memory_form (form.Nd s) (nd_text s) bytes_left source_faults bytes_held sink_faults source sink (λ input. refl) (record {
      reads = no_memory_reads bytes_left source sink;
      done = λ e. absurd (no_memory_so status.Done e);
      bad_data = λ e. absurd (no_memory_so status.BadData e);
      bad_line = no_memory_so status.BadLine;
    })
