-- What the top call owes for bytes in memory: the words, the bytes that were read, those that were put, and the status.
use Rattle.std.specs.Prelude.{◌≡◌, ◌≢◌, ◌<◌, ◌≤◌, ◌⊎◌, ℕ, true, List, length, take, Option, Some, Ok, Err}
use Rattle.pybuf_command.specs.declared.worlds.Command.{Command}
use Rattle.pybuf_numbers.specs.declared.codes.ArrayCode.{ArrayCode}
use Rattle.pybuf_array.specs.declared.operations.ArrayOp.{ArrayOp}
use Rattle.pybuf_array_lines.specs.Inputs.{operations_in}
use Rattle.pybuf_table_lines.specs.Listings.{Listing}
use Rattle.pybuf_table_lines.specs.Texts.{listing_text, left_over, left_over_text}
use Rattle.pybuf_nd_lines.specs.Selections.{Selection, bytes_due, selection_text}
use Rattle.pybuf_nd_lines.specs.Texts.{misfit_text}
use Rattle.pybuf_line.specs.Scalars.{handle_in}
use Rattle.pybuf_line.specs.Lines.{commands_in}
use Rattle.pybuf_line.specs.Replies.{bad_line_text}
use Rattle.pybuf_cli.specs.declared.forms.Form.{Form}
use Rattle.pybuf_cli.specs.declared.forms.Form.TheVariants as form
use Rattle.pybuf_cli.specs.declared.status.Status.{Status}
use Rattle.pybuf_cli.specs.declared.status.Status.TheVariants as status
use Rattle.pybuf_cli.specs.Program.{form_of, take_memory, program}
use Rattle.pybuf_cli.specs.Arrays.{array_program}
use Rattle.pybuf_cli.specs.Serving.{IsDue, Ends}

-- words that ask for nothing are refused, unless there is no memory to read them
abbrev pub IsRefusal : List (List ℕ) → Status → Type 0
IsRefusal words result = (result ≡ status.Usage) ⊎ ((take_memory words ≡ true) × (result ≡ status.NoMemory))

-- of `run`: the replies to lines that are commands
abbrev pub DoneRun : List (List ℕ) → List ℕ → List ℕ → Status → Type 0
DoneRun words input out result =
    form_of words ≡ Some form.Run → result ≡ status.Done →
    (commands : List Command) × (commands_in handle_in input ≡ Ok commands) × (out ≡ program commands)

-- of `run`: the number of the first line that is no command
abbrev pub BadLineOfRun : List (List ℕ) → List ℕ → List ℕ → Status → Type 0
BadLineOfRun words input out result =
    form_of words ≡ Some form.Run → result ≡ status.BadLine →
    (line : ℕ) × (commands_in handle_in input ≡ Err line) × (out ≡ bad_line_text line)

-- of `array`: the replies to lines that are operations
abbrev pub DoneArray : List (List ℕ) → List ℕ → List ℕ → Status → Type 0
DoneArray words input out result =
    (c : ArrayCode) → form_of words ≡ Some (form.Array c) → result ≡ status.Done →
    (operations : List ArrayOp) × (operations_in input ≡ Ok operations) × (out ≡ array_program c operations)

-- of `array`: the number of the first line that is no operation
abbrev pub BadLineOfArray : List (List ℕ) → List ℕ → List ℕ → Status → Type 0
BadLineOfArray words input out result =
    (c : ArrayCode) → form_of words ≡ Some (form.Array c) → result ≡ status.BadLine →
    (line : ℕ) × (operations_in input ≡ Err line) × (out ≡ bad_line_text line)

-- of `table`: the lines of records that are listed
abbrev pub DoneTable : List (List ℕ) → List ℕ → List ℕ → Status → Type 0
DoneTable words input out result =
    (l : Listing) → form_of words ≡ Some (form.Table l) → result ≡ status.Done →
    (left_over l input ≡ 0) × (out ≡ listing_text l input)

-- of `table`: how many bytes are left over
abbrev pub BadDataOfTable : List (List ℕ) → List ℕ → List ℕ → Status → Type 0
BadDataOfTable words input out result =
    (l : Listing) → form_of words ≡ Some (form.Table l) → result ≡ status.BadData →
    (0 < left_over l input) × (out ≡ left_over_text (left_over l input))

-- of `nd`: the bytes that are asked for
abbrev pub DoneNd : List (List ℕ) → List ℕ → List ℕ → Status → Type 0
DoneNd words input out result =
    (s : Selection) → form_of words ≡ Some (form.Nd s) → result ≡ status.Done →
    (length input ≡ bytes_due s) × (out ≡ selection_text s input)

-- of `nd`: how many bytes there are, which are more than the shape has or fewer
abbrev pub BadDataOfNd : List (List ℕ) → List ℕ → List ℕ → Status → Type 0
BadDataOfNd words input out result =
    (s : Selection) → form_of words ≡ Some (form.Nd s) → result ≡ status.BadData →
    (length input ≢ bytes_due s) × (out ≡ misfit_text (length input) (bytes_due s))

-- of any form: the front of a text that is due
abbrev pub IsFrontDue : Form → List ℕ → List ℕ → Type 0
IsFrontDue f input out = (text : List ℕ) × IsDue f input text × (count : ℕ) × (count ≤ length text) × (out ≡ take count text)

-- of any form: it ends as is due, or memory ran out
abbrev pub EndsOrNoMemory : Form → List ℕ → Status → Type 0
EndsOrNoMemory f input result = (Ends f input result) ⊎ (result ≡ status.NoMemory)
