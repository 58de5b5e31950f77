-- What is written of a table of records, and how the run ends.
use Rattle.std.specs.Prelude.{◌≡◌, ◌≢◌, ℕ, ◌<◌, ◌≤◌, ◌==◌, List, [], length, nat_lt, Option, Some, if◌then◌else◌}
use Rattle.pybuf_table_lines.specs.Listings.{Listing}
use Rattle.pybuf_table_lines.specs.Texts.{listing_text, left_over, left_over_text}
use Rattle.pybuf_cli.specs.declared.status.Status.{Status}
use Rattle.pybuf_cli.specs.declared.status.Status.TheVariants as status
use Rattle.pybuf_cli.specs.Devices.{Put}
use Rattle.pybuf_cli.specs.Program.{most, ReadsInput, Ended}

-- The text that is due for bytes: a line for each record that is listed. If bytes are left over, it says how
-- many.
abbrev pub text_of_table : Listing → List ℕ → List ℕ
text_of_table l input = if left_over l input == 0 then listing_text l input else left_over_text (left_over l input)

abbrev pub ending_of_table : Listing → List ℕ → Status
ending_of_table l input = if left_over l input == 0 then status.Done else status.BadData

-- the text that is due for an input, or no text if the input is too long
abbrev pub table_text : Listing → List ℕ → List ℕ
table_text l input = if nat_lt most (length input) then [] else text_of_table l input

-- how the run ends, if memory suffices and neither the source nor the sink fails
abbrev pub table_ending : Listing → List ℕ → Status
table_ending l input = if nat_lt most (length input) then status.TooLong else ending_of_table l input

-- All of the input was read, it is whole records and nothing else, and just a line for each of them that is
-- listed was put.
pub record IsListed (l : Listing) (input : List ℕ) (left held_before held : Option (List ℕ)) : Type 0 where
  pub all_read : left ≡ Some []
  pub short : length input ≤ most
  pub whole : left_over l input ≡ 0
  pub put : Put held_before (listing_text l input) held

-- All of the input was read, bytes are left over behind its records, and just the text that tells how many was
-- put.
pub record IsBadData (l : Listing) (input : List ℕ) (left held_before held : Option (List ℕ)) : Type 0 where
  pub all_read : left ≡ Some []
  pub short : length input ≤ most
  pub some_left : 0 < left_over l input
  pub put : Put held_before (left_over_text (left_over l input)) held

-- An input is records and nothing else, and a line for each that is listed was put.
abbrev pub ListingPut : {K : Type 0} → Listing → List ℕ → (K → Option (List ℕ)) → K → K → Type 0
ListingPut l input bytes_held old new = (left_over l input ≡ 0) × Put (bytes_held old) (listing_text l input) (bytes_held new)

-- Bytes are left over behind its records, and how many was put.
abbrev pub LeftOverPut : {K : Type 0} → Listing → List ℕ → (K → Option (List ℕ)) → K → K → Type 0
LeftOverPut l input bytes_held old new = (0 < left_over l input) × Put (bytes_held old) (left_over_text (left_over l input)) (bytes_held new)

-- What the form `table` promises, if the source tells its bytes. No line can be wrong here.
pub record ListsTable {S K : Type 0} (l : Listing) (result : Status) (bytes_left : S → Option (List ℕ)) (bytes_held : K → Option (List ℕ))
    (source_before source : S) (sink_before sink : K) : Type 0 where
  pub reads : ReadsInput result bytes_left source_before source sink_before sink
  pub done : result ≡ status.Done → Ended (IsListed l) bytes_left source_before source bytes_held sink_before sink
  pub bad_data : result ≡ status.BadData → Ended (IsBadData l) bytes_left source_before source bytes_held sink_before sink
  pub bad_line : result ≢ status.BadLine
