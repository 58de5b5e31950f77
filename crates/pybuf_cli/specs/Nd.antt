-- What is written of bytes in a shape, and how the run ends.
use Rattle.std.specs.Prelude.{◌≡◌, ◌≢◌, ℕ, ◌≤◌, ◌==◌, List, [], length, nat_lt, Option, Some, if◌then◌else◌}
use Rattle.pybuf_nd_lines.specs.Selections.{Selection, bytes_due, selection_text}
use Rattle.pybuf_nd_lines.specs.Texts.{misfit_text}
use Rattle.pybuf_cli.specs.declared.status.Status.{Status}
use Rattle.pybuf_cli.specs.declared.status.Status.TheVariants as status
use Rattle.pybuf_cli.specs.Devices.{Put}
use Rattle.pybuf_cli.specs.Program.{most, ReadsInput, Ended}

-- The text that is due for bytes: those that are selected. If there are not as many bytes as the shape has, it
-- says how many there are.
abbrev pub text_of_nd : Selection → List ℕ → List ℕ
text_of_nd s input = if length input == bytes_due s then selection_text s input else misfit_text (length input) (bytes_due s)

abbrev pub ending_of_nd : Selection → List ℕ → Status
ending_of_nd s input = if length input == bytes_due s then status.Done else status.BadData

-- the text that is due for an input, or no text if the input is too long
abbrev pub nd_text : Selection → List ℕ → List ℕ
nd_text s input = if nat_lt most (length input) then [] else text_of_nd s input

-- how the run ends, if memory suffices and neither the source nor the sink fails
abbrev pub nd_ending : Selection → List ℕ → Status
nd_ending s input = if nat_lt most (length input) then status.TooLong else ending_of_nd s input

-- All of the input was read, it has as many bytes as the shape, and just those that are selected were put.
pub record IsSelected (s : Selection) (input : List ℕ) (left held_before held : Option (List ℕ)) : Type 0 where
  pub all_read : left ≡ Some []
  pub short : length input ≤ most
  pub fits : length input ≡ bytes_due s
  pub put : Put held_before (selection_text s input) held

-- All of the input was read, it has more bytes than the shape or fewer, and just the text that tells how many
-- was put.
pub record IsMisfit (s : Selection) (input : List ℕ) (left held_before held : Option (List ℕ)) : Type 0 where
  pub all_read : left ≡ Some []
  pub short : length input ≤ most
  pub differs : length input ≢ bytes_due s
  pub put : Put held_before (misfit_text (length input) (bytes_due s)) held

-- An input has as many bytes as the shape, and those that are asked for were put.
abbrev pub SelectionPut : {K : Type 0} → Selection → List ℕ → (K → Option (List ℕ)) → K → K → Type 0
SelectionPut s input bytes_held old new = (length input ≡ bytes_due s) × Put (bytes_held old) (selection_text s input) (bytes_held new)

-- It has more or fewer, and how many there are was put.
abbrev pub MisfitPut : {K : Type 0} → Selection → List ℕ → (K → Option (List ℕ)) → K → K → Type 0
MisfitPut s input bytes_held old new =
    (length input ≢ bytes_due s) × Put (bytes_held old) (misfit_text (length input) (bytes_due s)) (bytes_held new)

-- What the form `nd` promises, if the source tells its bytes. No line can be wrong here.
pub record Selects {S K : Type 0} (s : Selection) (result : Status) (bytes_left : S → Option (List ℕ)) (bytes_held : K → Option (List ℕ))
    (source_before source : S) (sink_before sink : K) : Type 0 where
  pub reads : ReadsInput result bytes_left source_before source sink_before sink
  pub done : result ≡ status.Done → Ended (IsSelected s) bytes_left source_before source bytes_held sink_before sink
  pub bad_data : result ≡ status.BadData → Ended (IsMisfit s) bytes_left source_before source bytes_held sink_before sink
  pub bad_line : result ≢ status.BadLine
