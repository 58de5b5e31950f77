-- What the program promises for the form that its words ask for.
use Rattle.std.proofs.Common.{◌≡◌, ◌⊎◌, ℕ, true, List, Option, Some, None, inl, inr, sym, ◌∙◌, ap, refl, subst, arith}
use Rattle.pybuf_cli.specs.declared.forms.Form.{Form}
use Rattle.pybuf_cli.specs.declared.status.Status.{Status}
use Rattle.pybuf_cli.specs.declared.status.Status.TheVariants as status
use Rattle.pybuf_cli.specs.declared.forms.Form.TheVariants as form
use Rattle.pybuf_cli.specs.Devices.{Rose}
use Rattle.pybuf_cli.specs.Program.{take_memory, AskForData, alone}
use Rattle.pybuf_cli.specs.Serving.{ServesForm, Serves}
use Rattle.pybuf_cli.proofs.Data.{no_memory_so, no_memory_serves}

other_form : (asked : Option Form) (f : Form) → asked ≡ Some f → asked ≡ None → ⊥
other_form asked f is none = let both : Some f ≡ None = sym is ∙ none in cc

same_form : (asked : Option Form) (f other : Form) → asked ≡ Some f → asked ≡ Some other → f ≡ other
same_form asked f other is so = let both : Some f ≡ Some other = sym is ∙ so in cc

-- Words that ask for no form are refused, if nothing else was done.
pub serves_none : {S K : Type 0} (words : List (List ℕ)) (asked : Option Form) (bytes_left : S → Option (List ℕ)) (source_faults : S → ℕ) (bytes_held : K → Option (List ℕ))
    (sink_faults : K → ℕ) (source : S) (sink : K) → asked ≡ None →
    Serves words asked status.Usage bytes_left source_faults bytes_held sink_faults source source sink sink
serves_none words asked bytes_left source_faults bytes_held sink_faults source sink none = record {
  usage = λ _. none;
  refused = λ _. inl refl;
  refused_reads_nothing = λ _. refl;
  refused_writes_nothing = λ _. refl;
  served = λ f is. absurd (other_form asked f is none);
}

-- Words are served in the same way if there is no memory to read them.
pub serves_unread : {S K : Type 0} (words : List (List ℕ)) (asked : Option Form) (bytes_left : S → Option (List ℕ)) (source_faults : S → ℕ)
    (bytes_held : K → Option (List ℕ)) (sink_faults : K → ℕ) (source : S) (sink : K) → take_memory words ≡ true → AskForData asked →
    Serves words asked status.NoMemory bytes_left source_faults bytes_held sink_faults source source sink sink
serves_unread words asked bytes_left source_faults bytes_held sink_faults source sink memory asks = record {
  usage = λ e. absurd (no_memory_so status.Usage e);
  refused = λ _. inr (memory, refl);
  refused_reads_nothing = λ _. refl;
  refused_writes_nothing = λ _. refl;
  served = λ f is. no_memory_serves f bytes_left source_faults bytes_held sink_faults source sink (subst AskForData is asks);
}

-- Words that ask for data do so with one thread too.
pub asks_alone : (asked : Option Form) → AskForData asked → AskForData (alone asked)
asks_alone None asks = asks
asks_alone (Some form.Run) asks = asks
asks_alone (Some form.Share) asks = absurd asks
asks_alone (Some (form.Make n)) asks = asks
asks_alone (Some (form.Array c)) asks = asks
asks_alone (Some (form.Table l)) asks = asks
asks_alone (Some (form.Nd s)) asks = asks

-- Words that ask for a form get what is promised for it. So an arm for a form only has to show that, and that
-- it doesn't refuse its words.
pub serves_form : {S K : Type 0} (words : List (List ℕ)) (asked : Option Form) (f : Form) (result : Status)
    (bytes_left : S → Option (List ℕ)) (source_faults : S → ℕ) (bytes_held : K → Option (List ℕ)) (sink_faults : K → ℕ)
    (source_before source : S) (sink_before sink : K) → asked ≡ Some f → (result ≡ status.Usage → ⊥) →
    ServesForm f result bytes_left source_faults bytes_held sink_faults source_before source sink_before sink →
    Serves words asked result bytes_left source_faults bytes_held sink_faults source_before source sink_before sink
serves_form words asked f result bytes_left source_faults bytes_held sink_faults source_before source sink_before sink is other served = record {
  usage = λ refused. absurd (other refused);
  refused = λ none. absurd (other_form asked f is none);
  refused_reads_nothing = λ none. absurd (other_form asked f is none);
  refused_writes_nothing = λ none. absurd (other_form asked f is none);
  served = λ g so.
      subst (λ (h : Form). ServesForm h result bytes_left source_faults bytes_held sink_faults source_before source sink_before sink)
      (same_form asked f g is so) served;
}

-- A script ends well or for want of memory, if the sink doesn't fail.
pub made_whole : (result : Status) (Writes : Type 0) → (result ≡ status.Done) ⊎ ((result ≡ status.NoMemory) ⊎ (result ≡ status.WriteFault)) →
    (result ≡ status.WriteFault → Writes) → ¬ Writes → (result ≡ status.Done) ⊎ (result ≡ status.NoMemory)
made_whole result Writes (inl done) fault fine = inl done
made_whole result Writes (inr (inl none)) fault fine = inr none
made_whole result Writes (inr (inr failed)) fault fine = absurd (fine (fault failed))

-- A script ends with no other status.
abbrev pub is_end_of_make : Status → Type 0
is_end_of_make status.Done = Unit {0}
is_end_of_make status.NoMemory = Unit {0}
is_end_of_make status.WriteFault = Unit {0}
is_end_of_make _ = ⊥

pub made_ends_so : (result other : Status) → (result ≡ status.Done) ⊎ ((result ≡ status.NoMemory) ⊎ (result ≡ status.WriteFault)) →
    result ≡ other → is_end_of_make other
made_ends_so result other (inl done) is = subst is_end_of_make (sym done ∙ is) tt
made_ends_so result other (inr (inl none)) is = subst is_end_of_make (sym none ∙ is) tt
made_ends_so result other (inr (inr failed)) is = subst is_end_of_make (sym failed ∙ is) tt

-- For words that need only one thread, the promises with one thread are the promises.
pub serves_as : {S K : Type 0} (words : List (List ℕ)) (asked other : Option Form) (result : Status)
    (bytes_left : S → Option (List ℕ)) (source_faults : S → ℕ) (bytes_held : K → Option (List ℕ)) (sink_faults : K → ℕ)
    (source_before source : S) (sink_before sink : K) → asked ≡ other →
    Serves words asked result bytes_left source_faults bytes_held sink_faults source_before source sink_before sink →
    Serves words other result bytes_left source_faults bytes_held sink_faults source_before source sink_before sink
serves_as words asked other result bytes_left source_faults bytes_held sink_faults source_before source sink_before sink same serves =
    subst (λ (x : Option Form). Serves words x result bytes_left source_faults bytes_held sink_faults source_before source sink_before sink) same serves

-- Words that are refused end with no other status.
abbrev is_refusal : Status → Type 0
is_refusal status.Usage = Unit {0}
is_refusal status.NoMemory = Unit {0}
is_refusal _ = ⊥

refused_so : (words : List (List ℕ)) (result other : Status) → (result ≡ status.Usage) ⊎ ((take_memory words ≡ true) × (result ≡ status.NoMemory)) →
    result ≡ other → is_refusal other
refused_so words result other (inl usage) is = subst is_refusal (sym usage ∙ is) tt
refused_so words result other (inr memory) is = subst is_refusal (sym memory.1 ∙ is) tt

-- A source that never fails is read, and a sink that never fails is written.
pub reads_well : {S K : Type 0} (words : List (List ℕ)) (asked : Option Form) (result : Status)
    (bytes_left : S → Option (List ℕ)) (source_faults : S → ℕ) (bytes_held : K → Option (List ℕ)) (sink_faults : K → ℕ)
    (source_before source : S) (sink_before sink : K) →
    Serves words asked result bytes_left source_faults bytes_held sink_faults source_before source sink_before sink →
    ¬ (Rose (source_faults source_before) (source_faults source)) → result ≡ status.ReadFault → ⊥
reads_well words None result bytes_left source_faults bytes_held sink_faults source_before source sink_before sink serves well is =
    refused_so words result status.ReadFault (serves.refused refl) is
reads_well words (Some f) result bytes_left source_faults bytes_held sink_faults source_before source sink_before sink serves well is =
    well ((serves.served f refl).read_fault is)

pub writes_well : {S K : Type 0} (words : List (List ℕ)) (asked : Option Form) (result : Status)
    (bytes_left : S → Option (List ℕ)) (source_faults : S → ℕ) (bytes_held : K → Option (List ℕ)) (sink_faults : K → ℕ)
    (source_before source : S) (sink_before sink : K) →
    Serves words asked result bytes_left source_faults bytes_held sink_faults source_before source sink_before sink →
    ¬ (Rose (sink_faults sink_before) (sink_faults sink)) → result ≡ status.WriteFault → ⊥
writes_well words None result bytes_left source_faults bytes_held sink_faults source_before source sink_before sink serves well is =
    refused_so words result status.WriteFault (serves.refused refl) is
writes_well words (Some f) result bytes_left source_faults bytes_held sink_faults source_before source sink_before sink serves well is =
    well ((serves.served f refl).write_fault is)

no_sessions_alone : (asked : Option Form) → alone asked ≡ Some form.Share → ⊥
no_sessions_alone None is = cc
no_sessions_alone (Some form.Run) is = cc
no_sessions_alone (Some form.Share) is = cc
no_sessions_alone (Some (form.Make n)) is = cc
no_sessions_alone (Some (form.Array c)) is = cc
no_sessions_alone (Some (form.Table l)) is = cc
no_sessions_alone (Some (form.Nd s)) is = cc

-- ---- which words ask for sessions

-- With one thread, no run ends as a disagreement.
pub agrees_alone : {S K : Type 0} (words : List (List ℕ)) (asked other : Option Form) (result : Status)
    (bytes_left : S → Option (List ℕ)) (source_faults : S → ℕ) (bytes_held : K → Option (List ℕ)) (sink_faults : K → ℕ)
    (source_before source : S) (sink_before sink : K) → other ≡ alone asked →
    Serves words other result bytes_left source_faults bytes_held sink_faults source_before source sink_before sink → result ≡ status.Disagree → ⊥
agrees_alone words asked None result bytes_left source_faults bytes_held sink_faults source_before source sink_before sink same serves is =
    refused_so words result status.Disagree (serves.refused refl) is
agrees_alone words asked (Some f) result bytes_left source_faults bytes_held sink_faults source_before source sink_before sink same serves is =
    no_sessions_alone asked (sym same ∙ ap Some ((serves.served f refl).disagree is))

-- A device that never fails counts no fault.
pub never_rose : (before after : ℕ) → before ≡ 0 → after ≡ 0 → Rose before after → ⊥
never_rose before after none still (inl more) = omega (arith, none, still, more)
never_rose before after none still (inr last) = omega (arith, still, last)
