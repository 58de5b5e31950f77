-- What calls on the bytes of a view give.
use Rattle.std.specs.Prelude.{ℕ, ℤ, Bool, List, Option, Result, Ok, bytes_eq}
use Rattle.pybuf_value.specs.declared.faults.Fault.{Fault}
use Rattle.pybuf_value.specs.declared.lent.Lent.{Lent}
use Rattle.pybuf_value.specs.Lent.{lent_bytes}
use Rattle.pybuf_value.specs.Refusing.{◌>>=◌}
use Rattle.pybuf_value.specs.Halting.{Answered}
use Rattle.pybuf_value.specs.Snaps.{content_of, content_of_named}
use Rattle.std.specs.Borrow.{Bor}
use Rattle.pybuf_search.specs.Places.{first_place, number_of_matches}
use Rattle.pybuf_bytes.specs.Searching.{split_of}
use Rattle.pybuf_shaping.specs.Replacing.{replacement}
use Rattle.pybuf_shaping.specs.Digits.{hex_text}
use Rattle.pybuf_letters.specs.Strips.{stripped, goes}
use Rattle.pybuf_command.specs.declared.kinds.Subject.TheVariants as subject
use Rattle.pybuf_state.specs.Exporter.{Exporter}
use Rattle.pybuf_state.specs.Snaps.{snap_of_subject}
use Rattle.pybuf_scoped.specs.declared.stop.Stop.{Stop}
use Rattle.pybuf_scoped.specs.Stops.{halted}

-- ---- the bytes

-- the bytes of a view's items, in their order
abbrev pub view_bytes : Exporter → ℕ → Result (List ℕ) Fault
view_bytes e k = content_of_named (snap_of_subject e (subject.View k))

-- the same; a view whose items don't lie one after the other is refused
abbrev pub view_run : Exporter → ℕ → Result (List ℕ) Fault
view_run e k = content_of (snap_of_subject e (subject.View k))

-- ---- what is found in them

-- the place of the first match of a needle
abbrev pub place_in : List ℕ → Result (List ℕ) Fault → Result (Option ℕ) Fault
place_in needle given = do
  bytes ← given
  Ok (first_place bytes needle)

-- the number of matches of a needle
abbrev pub matches_in : List ℕ → Result (List ℕ) Fault → Result ℕ Fault
matches_in needle given = do
  bytes ← given
  Ok (number_of_matches bytes needle)

-- the parts between the matches of a separator, or between blanks
abbrev pub parts_in : Option (List ℕ) → ℤ → Result (List ℕ) Fault → Result (List (List ℕ)) Fault
parts_in separator most given = do
  bytes ← given
  split_of separator most bytes

-- the bytes with others in place of matches
abbrev pub replaced_in : ℤ → List ℕ → List ℕ → Result (List ℕ) Fault → Result (List ℕ) Fault
replaced_in most old new given = do
  bytes ← given
  replacement most old new bytes

-- the bytes without those at both ends that are named, or without blanks there
abbrev pub stripped_in : Option (List ℕ) → Result (List ℕ) Fault → Result (List ℕ) Fault
stripped_in chars given = do
  bytes ← given
  Ok (stripped (goes chars) bytes)

-- the digits of the bytes
abbrev pub digits_in : Option (List ℕ) → ℤ → Result (List ℕ) Fault → Result (List ℕ) Fault
digits_in separator size given = do
  bytes ← given
  hex_text separator size bytes

-- whether the bytes are these
abbrev pub same_in : List ℕ → Result (List ℕ) Fault → Result Bool Fault
same_in other given = do
  bytes ← given
  Ok (bytes_eq bytes other)

-- ---- what the calls answer

-- the bytes, lent or gathered, or their refusal
abbrev pub LendsContent : Result (List ℕ) Fault → Result Lent Stop → Type 0
LendsContent bytes result = Answered (halted result) lent_bytes bytes

-- the place of the first match in the bytes, or their refusal
abbrev pub FindsIn : Result (List ℕ) Fault → List ℕ → Result (Option ℕ) Stop → Type 0
FindsIn bytes needle result = Answered (halted result) (λ x. x) (place_in needle bytes)

-- the number of matches in the bytes, or their refusal
abbrev pub CountsIn : Result (List ℕ) Fault → List ℕ → Result ℕ Stop → Type 0
CountsIn bytes needle result = Answered (halted result) (λ x. x) (matches_in needle bytes)

-- the parts of the bytes, or the refusal of these or of the separator
abbrev pub SplitsAt : Result (List ℕ) Fault → Option (List ℕ) → ℤ → Result (List (List ℕ)) Stop → Type 0
SplitsAt bytes separator most result = Answered (halted result) (λ x. x) (parts_in separator most bytes)

-- the bytes with others in place of matches, or a refusal
abbrev pub ReplacesIn : Result (List ℕ) Fault → List ℕ → List ℕ → ℤ → Result (List ℕ) Stop → Type 0
ReplacesIn bytes old new most result = Answered (halted result) (λ x. x) (replaced_in most old new bytes)

-- the part of the bytes between what goes at both ends, or their refusal
abbrev pub StripsTo : Result (List ℕ) Fault → Option (List ℕ) → Result (Bor (List ℕ)) Stop → Type 0
StripsTo bytes chars result = Answered (halted result) (λ x. x.now) (stripped_in chars bytes)

-- the digits of the bytes, or the refusal of these or of the separator
abbrev pub WritesDigits : Result (List ℕ) Fault → Option (List ℕ) → ℤ → Result (List ℕ) Stop → Type 0
WritesDigits bytes separator size result = Answered (halted result) (λ x. x) (digits_in separator size bytes)

-- whether the bytes are these, or their refusal
abbrev pub ComparesWith : Result (List ℕ) Fault → List ℕ → Result Bool Stop → Type 0
ComparesWith bytes other result = Answered (halted result) (λ x. x) (same_in other bytes)
