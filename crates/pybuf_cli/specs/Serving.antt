-- What the top call promises for every form that the words ask for, and what each form promises by itself.
use Rattle.std.specs.Prelude.{◌≡◌, ◌⊎◌, ℕ, true, List, Option, Some, None}
use Rattle.pybuf_make.specs.Summary.{summary}
use Rattle.pybuf_cli.specs.declared.forms.Form.{Form}
use Rattle.pybuf_cli.specs.declared.forms.Form.TheVariants as form
use Rattle.pybuf_cli.specs.declared.status.Status.{Status}
use Rattle.pybuf_cli.specs.declared.status.Status.TheVariants as status
use Rattle.pybuf_cli.specs.Devices.{Rose}
use Rattle.pybuf_cli.specs.Program.{TakesData, take_memory, run_text, run_ending, PutsOneDue, MeetsAnEnding, Runs, Makes}
use Rattle.pybuf_cli.specs.Sharing.{IsDueShared, EndsShared, Shares}
use Rattle.pybuf_cli.specs.Arrays.{array_run_text, array_run_ending, RunsArray}
use Rattle.pybuf_cli.specs.Tables.{table_text, table_ending, ListsTable}
use Rattle.pybuf_cli.specs.Nd.{nd_text, nd_ending, Selects}

-- The text is due for a form and an input. The summary of a script is due whatever the input is, since the
-- input isn't read.
abbrev pub IsDue : Form → List ℕ → List ℕ → Type 0
IsDue form.Run input text = text ≡ run_text input
IsDue form.Share input text = IsDueShared input text
IsDue (form.Make n) input text = text ≡ summary n
IsDue (form.Array c) input text = text ≡ array_run_text c input
IsDue (form.Table l) input text = text ≡ table_text l input
IsDue (form.Nd s) input text = text ≡ nd_text s input

-- The form ends so over an input, if memory suffices and neither the source nor the sink fails.
abbrev pub Ends : Form → List ℕ → Status → Type 0
Ends form.Run input result = result ≡ run_ending input
Ends form.Share input result = EndsShared input result
Ends (form.Make n) input result = result ≡ status.Done
Ends (form.Array c) input result = result ≡ array_run_ending input
Ends (form.Table l) input result = result ≡ table_ending l input
Ends (form.Nd s) input result = result ≡ nd_ending s input

-- what one form promises and no other does
abbrev pub Owes : {S K : Type 0} → Form → Status → (S → Option (List ℕ)) → (K → Option (List ℕ)) → S → S → K → K → Type 0
Owes form.Run result bytes_left bytes_held source_before source sink_before sink =
    Runs result bytes_left bytes_held source_before source sink_before sink
Owes form.Share result bytes_left bytes_held source_before source sink_before sink =
    Shares result bytes_left bytes_held source_before source sink_before sink
Owes (form.Make n) result bytes_left bytes_held source_before source sink_before sink =
    Makes n result bytes_held source_before source sink_before sink
Owes (form.Array c) result bytes_left bytes_held source_before source sink_before sink =
    RunsArray c result bytes_left bytes_held source_before source sink_before sink
Owes (form.Table l) result bytes_left bytes_held source_before source sink_before sink =
    ListsTable l result bytes_left bytes_held source_before source sink_before sink
Owes (form.Nd s) result bytes_left bytes_held source_before source sink_before sink =
    Selects s result bytes_left bytes_held source_before source sink_before sink

-- What the top call promises for a form that the words ask for.
pub record ServesForm {S K : Type 0} (f : Form) (result : Status)
    (bytes_left : S → Option (List ℕ)) (source_faults : S → ℕ) (bytes_held : K → Option (List ℕ)) (sink_faults : K → ℕ)
    (source_before source : S) (sink_before sink : K) : Type 0 where
  -- what this form alone promises
  pub own : Owes f result bytes_left bytes_held source_before source sink_before sink
  -- This holds for each form, if the source tells its bytes.
  pub prefix : PutsOneDue (IsDue f) bytes_left source_before bytes_held sink_before sink
  pub complete : MeetsAnEnding (Ends f) result bytes_left source_faults source_before source sink_faults sink_before sink
  -- Only a fault of a device ends a run with `ReadFault` or `WriteFault`.
  pub read_fault : result ≡ status.ReadFault → Rose (source_faults source_before) (source_faults source)
  pub write_fault : result ≡ status.WriteFault → Rose (sink_faults sink_before) (sink_faults sink)
  pub read_fault_writes_nothing : result ≡ status.ReadFault → sink ≡ sink_before
  pub too_long_writes_nothing : result ≡ status.TooLong → sink ≡ sink_before
  -- Only sessions can disagree with their history.
  pub disagree : result ≡ status.Disagree → f ≡ form.Share
  -- Only data can have a length that doesn't fit.
  pub bad_data : result ≡ status.BadData → TakesData f

-- What the top call promises for its words, and for the form that they ask for, if they ask for one. It speaks
-- of the status, and of the source and the sink before and after the call: what these tell of their bytes, and
-- the counts of their faults. A clause that speaks of one form stands with that form (`Owes`).
pub record Serves {S K : Type 0} (words : List (List ℕ)) (asked : Option Form) (result : Status)
    (bytes_left : S → Option (List ℕ)) (source_faults : S → ℕ) (bytes_held : K → Option (List ℕ)) (sink_faults : K → ℕ)
    (source_before source : S) (sink_before sink : K) : Type 0 where
  -- Words that are no form are refused before anything is read or written, unless there is no memory to read
  -- the words. Only the words of a table and of bytes in a shape take memory.
  pub usage : result ≡ status.Usage → asked ≡ None
  pub refused : asked ≡ None → (result ≡ status.Usage) ⊎ ((take_memory words ≡ true) × (result ≡ status.NoMemory))
  pub refused_reads_nothing : asked ≡ None → source ≡ source_before
  pub refused_writes_nothing : asked ≡ None → sink ≡ sink_before
  -- Words that are a form get what the top call promises for it.
  pub served : (f : Form) → asked ≡ Some f →
      ServesForm f result bytes_left source_faults bytes_held sink_faults source_before source sink_before sink
