-- What the program does, by its words and its input.
use Rattle.std.specs.Prelude.{◌≡◌, ◌↔◌, ◌⊎◌, ℕ, ◌<◌, ◌≤◌, suc, Bool, false, List, [], ◌∷◌, length, drop, codes, nat_lt, nat_le, ◌&&◌, ◌||◌, decimal, Option, Some, None, Result, Ok, Err, if◌then◌else◌}
use Rattle.std.specs.Str.{bytes_eq}
use Rattle.std.specs.Str.Parse.{digits_value}
use Rattle.pybuf_command.specs.declared.worlds.Command.{Command}
use Rattle.pybuf_world.specs.World.{empty_world, replies_of}
use Rattle.pybuf_world.specs.Sound.{StaysSound}
use Rattle.pybuf_make.specs.Summary.{summary}
use Rattle.pybuf_numbers.specs.declared.codes.ArrayCode.{ArrayCode}
use Rattle.pybuf_numbers.specs.Codes.{code_of}
use Rattle.pybuf_table_lines.specs.Listings.{Listing, listing_in}
use Rattle.pybuf_nd_lines.specs.Selections.{Selection, selection_in}
use Rattle.pybuf_cli.specs.declared.forms.Form.{Form}
use Rattle.pybuf_cli.specs.declared.forms.Form.TheVariants as form
use Rattle.pybuf_cli.specs.declared.status.Status.{Status}
use Rattle.pybuf_cli.specs.declared.status.Status.TheVariants as status
use Rattle.pybuf_value.specs.Spelling.{handle_text}
use Rattle.pybuf_line.specs.Scalars.{handle_in}
use Rattle.pybuf_line.specs.Lines.{commands_in}
use Rattle.pybuf_line.specs.Replies.{reply_lines, bad_line_text}
use Rattle.pybuf_cli.specs.Devices.{Put, PutPrefix, PutsFrontOf, Rose}

-- the greatest length of an input
abbrev pub most : ℕ
most = 1_048_576

-- a number, if it is from 1 to 4,096 and the word writes it
abbrev pub written_number : List ℕ → ℕ → Option ℕ
written_number word n = if nat_le 1 n && nat_le n 4096 && bytes_eq word (decimal n) then Some n else None

-- The number of a script, which a word writes in decimal digits. It has no sign and no leading zeros, since
-- `decimal` writes none.
unfoldable pub script_number_in : List ℕ → Option ℕ
script_number_in word = written_number word (digits_value 10 word)

abbrev pub made : Option ℕ → Option Form
made (Some n) = Some (form.Make n)
made None = None

-- the code of an array that a word of one letter names
abbrev pub array_code_in : List ℕ → Option ArrayCode
array_code_in (letter ∷ []) = code_of letter
array_code_in _ = None

abbrev pub array_of : Option ArrayCode → Option Form
array_of (Some c) = Some (form.Array c)
array_of None = None

abbrev pub tabled : Option Listing → Option Form
tabled (Some l) = Some (form.Table l)
tabled None = None

abbrev pub selecting : Option Selection → Option Form
selecting (Some s) = Some (form.Nd s)
selecting None = None

-- What the words ask for. No word, or the one word `run`, asks for a run. The one word `share` asks for
-- sessions. The word `make` and a number ask for a summary of the script that has this number. The word `array`
-- and a code ask for a run of operations on an array of that code. The word `table` asks for the records of a
-- format, all of them or those that a query chooses. The word `nd` asks for bytes in a shape, of which slices
-- pick some. Other words are no form.
abbrev pub form_of : List (List ℕ) → Option Form
form_of [] = Some form.Run
form_of (word ∷ []) = if bytes_eq word (codes "run") then Some form.Run else (if bytes_eq word (codes "share") then Some form.Share else None)
form_of (word ∷ argument ∷ []) =
    if bytes_eq word (codes "make") then made (script_number_in argument)
    else if bytes_eq word (codes "array") then array_of (array_code_in argument)
    else if bytes_eq word (codes "table") then tabled (listing_in (argument ∷ []))
    else None
form_of (word ∷ argument ∷ further ∷ more) =
    if bytes_eq word (codes "table") then tabled (listing_in (argument ∷ further ∷ more))
    else if bytes_eq word (codes "nd") then selecting (selection_in (argument ∷ further ∷ more))
    else None

-- Words that take memory to be read. Those behind `table` give a format, which is kept with its fields, and
-- those behind `nd` give a shape and slices, which are kept too.
abbrev pub take_memory : List (List ℕ) → Bool
take_memory (word ∷ argument ∷ more) = bytes_eq word (codes "table") || bytes_eq word (codes "nd")
take_memory _ = false

-- The form's input is data, whose length may not fit.
abbrev pub TakesData : Form → Type 0
TakesData (form.Table l) = Unit {0}
TakesData (form.Nd s) = Unit {0}
TakesData _ = ⊥

-- The words ask for such a form or for no form.
abbrev pub AskForData : Option Form → Type 0
AskForData None = Unit {0}
AskForData (Some f) = TakesData f

-- The form, if there is only one thread. Sessions need more threads.
abbrev pub alone : Option Form → Option Form
alone (Some form.Share) = None
alone asked = asked

-- The text of a run: a line for each reply of a world that begins empty.
abbrev pub program : List Command → List ℕ
program commands = reply_lines handle_text (replies_of empty_world commands)

-- the text that is due for the lines of an input: that of the replies, or that of a line that is no command
abbrev pub due_for : Result (List Command) ℕ → List ℕ
due_for (Ok commands) = program commands
due_for (Err n) = bad_line_text n

-- how a run ends: each line spells something, or there is a first line that spells nothing
abbrev pub ending_for : {X : Type 0} → Result X ℕ → Status
ending_for (Ok read) = status.Done
ending_for (Err n) = status.BadLine

-- so it is of the lines of an input
abbrev pub due_of : List ℕ → List ℕ
due_of input = due_for (commands_in handle_in input)

-- the text that is due for a run of an input, or no text if the input is too long
abbrev pub run_text : List ℕ → List ℕ
run_text input = if nat_lt most (length input) then [] else due_for (commands_in handle_in input)

-- how a run of an input ends, if memory suffices and neither the source nor the sink fails
abbrev pub run_ending : List ℕ → Status
run_ending input = if nat_lt most (length input) then status.TooLong else ending_for (commands_in handle_in input)

-- All of the input was read, each of its lines is a command, and just the text of the replies was put. After
-- each of the commands, each byte of each unreleased view lies inside its exporter, and that exporter is as
-- long as when the view was made.
pub record IsDone (input : List ℕ) (left held_before held : Option (List ℕ)) : Type 0 where
  pub all_read : left ≡ Some []
  pub short : length input ≤ most
  pub commands : List Command
  pub spelled : commands_in handle_in input ≡ Ok commands
  pub sound : StaysSound empty_world commands
  pub put : Put held_before (program commands) held

-- All of the input was read, a line of it is the first that is no command, and just the text that tells its
-- number was put.
pub record IsBadLine (input : List ℕ) (left held_before held : Option (List ℕ)) : Type 0 where
  pub all_read : left ≡ Some []
  pub short : length input ≤ most
  pub line : ℕ
  pub first : commands_in handle_in input ≡ Err line
  pub put : Put held_before (bad_line_text line) held

-- The replies to the lines of an input were put, each of which is a command. The world is sound after each.
abbrev pub RepliesPut : {K : Type 0} → List ℕ → (K → Option (List ℕ)) → K → K → Type 0
RepliesPut input bytes_held old new =
    (commands : List Command) × (commands_in handle_in input ≡ Ok commands) × StaysSound empty_world commands ×
    Put (bytes_held old) (program commands) (bytes_held new)

-- The number of a line was put, the first that spells nothing.
abbrev pub BadLinePut : {X K : Type 0} → Result X ℕ → (K → Option (List ℕ)) → K → K → Type 0
BadLinePut read bytes_held old new = (line : ℕ) × (read ≡ Err line) × Put (bytes_held old) (bad_line_text line) (bytes_held new)

-- More bytes came than the program reads. The first that is too many was taken, and none after it.
pub record IsTooLong (input : List ℕ) (left : Option (List ℕ)) : Type 0 where
  pub long : most < length input
  pub rest : left ≡ Some (drop (suc most) input)

-- The front of an input was taken. At most one byte more was taken than the program reads, and that byte was
-- taken exactly if the run ended as too long.
pub record TakesFront (input : List ℕ) (result : Status) (left : Option (List ℕ)) : Type 0 where
  pub count : ℕ
  pub within : count ≤ length input
  pub bounded : count ≤ suc most
  pub rest : left ≡ Some (drop count input)
  pub too_long : (result ≡ status.TooLong) ↔ (count ≡ suc most)

-- ---- the frame of a form that reads its input: what was read and put, what is due, and how it ends

-- Where the source tells its bytes, this is said of them, and of what is left and held then.
abbrev pub Ended : {S K : Type 0} → (List ℕ → Option (List ℕ) → Option (List ℕ) → Option (List ℕ) → Type 0) →
    (S → Option (List ℕ)) → S → S → (K → Option (List ℕ)) → K → K → Type 0
Ended Is bytes_left source_before source bytes_held sink_before sink =
    (input : List ℕ) → bytes_left source_before ≡ Some input → Is input (bytes_left source) (bytes_held sink_before) (bytes_held sink)

-- Where it tells them, more came than are read.
abbrev pub TakesTooMany : {S : Type 0} → (S → Option (List ℕ)) → S → S → Type 0
TakesTooMany bytes_left before after = (input : List ℕ) → bytes_left before ≡ Some input → IsTooLong input (bytes_left after)

-- Where it tells them, their front was taken, and no more than is read but for one byte.
abbrev pub TakesAtMost : {S : Type 0} → Status → (S → Option (List ℕ)) → S → S → Type 0
TakesAtMost result bytes_left before after = (input : List ℕ) → bytes_left before ≡ Some input → TakesFront input result (bytes_left after)

-- Where it tells them, the front of the text that is due for them was put.
abbrev pub PutsDue : {S K : Type 0} → (List ℕ → List ℕ) → (S → Option (List ℕ)) → S → (K → Option (List ℕ)) → K → K → Type 0
PutsDue due bytes_left source_before bytes_held sink_before sink =
    (input : List ℕ) → bytes_left source_before ≡ Some input → PutPrefix (bytes_held sink_before) (due input) (bytes_held sink)

-- So it is where several texts may be due: the front of one of them was put.
abbrev pub PutsOneDue : {S K : Type 0} → (List ℕ → List ℕ → Type 0) → (S → Option (List ℕ)) → S → (K → Option (List ℕ)) → K → K → Type 0
PutsOneDue Due bytes_left source_before bytes_held sink_before sink =
    (input : List ℕ) → bytes_left source_before ≡ Some input → PutsFrontOf (λ text. Due input text) (bytes_held sink_before) (bytes_held sink)

-- Where it tells them and neither source nor sink fails, the form ends as is due for them, or memory ran out.
abbrev pub MeetsEnding : {S K : Type 0} → (List ℕ → Status) → Status → (S → Option (List ℕ)) → (S → ℕ) → S → S → (K → ℕ) → K → K → Type 0
MeetsEnding ending result bytes_left source_faults source_before source sink_faults sink_before sink =
    (input : List ℕ) → bytes_left source_before ≡ Some input →
    ¬ (Rose (source_faults source_before) (source_faults source)) → ¬ (Rose (sink_faults sink_before) (sink_faults sink)) →
    (result ≡ ending input) ⊎ (result ≡ status.NoMemory)

-- So it is where it may end in several ways.
abbrev pub MeetsAnEnding : {S K : Type 0} → (List ℕ → Status → Type 0) → Status → (S → Option (List ℕ)) → (S → ℕ) → S → S → (K → ℕ) → K → K → Type 0
MeetsAnEnding Ends result bytes_left source_faults source_before source sink_faults sink_before sink =
    (input : List ℕ) → bytes_left source_before ≡ Some input →
    ¬ (Rose (source_faults source_before) (source_faults source)) → ¬ (Rose (sink_faults sink_before) (sink_faults sink)) →
    (Ends input result) ⊎ (result ≡ status.NoMemory)

-- An answer to bytes that were read ends so, or memory ran out, or the sink failed.
abbrev pub OrFails : Type 0 → Status → Type 0
OrFails Ends result = Ends ⊎ ((result ≡ status.NoMemory) ⊎ (result ≡ status.WriteFault))

-- What a form that reads its input promises, if the source tells its bytes.
pub record ReadsInput {S K : Type 0} (result : Status) (bytes_left : S → Option (List ℕ)) (source_before source : S) (sink_before sink : K) : Type 0 where
  pub too_long : result ≡ status.TooLong → TakesTooMany bytes_left source_before source
  pub takes_front : TakesAtMost result bytes_left source_before source
  pub unread_writes_nothing : (rest : List ℕ) → bytes_left source ≡ Some rest → 0 < length rest →
      sink ≡ sink_before

-- What the form `run` promises, if the source tells its bytes.
pub record Runs {S K : Type 0} (result : Status) (bytes_left : S → Option (List ℕ)) (bytes_held : K → Option (List ℕ))
    (source_before source : S) (sink_before sink : K) : Type 0 where
  pub reads : ReadsInput result bytes_left source_before source sink_before sink
  pub done : result ≡ status.Done → Ended IsDone bytes_left source_before source bytes_held sink_before sink
  pub bad_line : result ≡ status.BadLine → Ended IsBadLine bytes_left source_before source bytes_held sink_before sink

-- What the form `make` with a number promises. It doesn't read the source, so it doesn't matter what that
-- tells.
pub record Makes {S K : Type 0} (n : ℕ) (result : Status) (bytes_held : K → Option (List ℕ)) (source_before source : S) (sink_before sink : K) : Type 0 where
  pub made : result ≡ status.Done → Put (bytes_held sink_before) (summary n) (bytes_held sink)
  pub made_prefix : PutPrefix (bytes_held sink_before) (summary n) (bytes_held sink)
  pub made_reads_nothing : source ≡ source_before
  pub made_ends : (result ≡ status.Done) ⊎ ((result ≡ status.NoMemory) ⊎ (result ≡ status.WriteFault))
