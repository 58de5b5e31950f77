-- The laws of letter cases, of stripped bytes, of runs between blanks, and of lines.
use Rattle.std.specs.Prelude.{◌≡◌, ◌↔◌, ◌<◌, ◌≤◌, ◌+◌, ◌-◌, ℕ, zero, suc, Bool, true, false, not, IsTrue, List, [], ◌∷◌, ◌++◌, length, take, drop, slice_index, slice_index_or, filter, ◌⊎◌}
use Rattle.std.specs.Char.{is_ascii_alphabetic, to_ascii_lowercase, to_ascii_uppercase}
use Rattle.std.specs.List.{All, AllPass, concat, join_with_byte, list_any}
use Rattle.pybuf_letters.specs.Classes.{is_blank, is_title}
use Rattle.pybuf_letters.specs.Cases.{lower, title}
use Rattle.pybuf_letters.specs.Blanks.{runs, runs_up_to}
use Rattle.pybuf_letters.specs.Lines.{is_line_break, begins_with_feed, whole_lines, split_lines}

-- ---- cases

-- a change leaves the bytes as they are, except for the case of letters
abbrev pub ChangesCaseAlone : (List ℕ → List ℕ) → Type 0
ChangesCaseAlone change = (bytes : List ℕ) → lower (change bytes) ≡ lower bytes

-- a second change changes nothing
abbrev pub Settles : (List ℕ → List ℕ) → Type 0
Settles change = (bytes : List ℕ) → change (change bytes) ≡ change bytes

-- a second change gives back what was there before the first
abbrev pub TurnsBack : (List ℕ → List ℕ) → Type 0
TurnsBack change = (bytes : List ℕ) → change (change bytes) ≡ bytes

-- bytes are a title exactly if they have a letter and are what `title` makes of them
abbrev pub TitlesStay : Type 0
TitlesStay = (bytes : List ℕ) → IsTrue (is_title bytes) ↔ (IsTrue (list_any is_ascii_alphabetic bytes) × (title bytes ≡ bytes))

-- whether the byte before a place is a letter; before the first place there is none
abbrev pub stands_after_letter : List ℕ → ℕ → Bool
stands_after_letter bytes zero = false
stands_after_letter bytes (suc place) = is_ascii_alphabetic (slice_index bytes place)

-- A byte that is no letter stays as it is. A letter that stands after a letter is in lower case, and every other letter
-- is in upper case.
pub record IsTitled (bytes titled : List ℕ) (place : ℕ) : Type 0 where
  pub other : is_ascii_alphabetic (slice_index bytes place) ≡ false → slice_index titled place ≡ slice_index bytes place
  pub first : is_ascii_alphabetic (slice_index bytes place) ≡ true → stands_after_letter bytes place ≡ false → slice_index titled place ≡ to_ascii_uppercase (slice_index bytes place)
  pub later : is_ascii_alphabetic (slice_index bytes place) ≡ true → stands_after_letter bytes place ≡ true → slice_index titled place ≡ to_ascii_lowercase (slice_index bytes place)

-- a title has as many bytes, and each of them is as `IsTitled` says
pub record TitlesChangeLetters (bytes : List ℕ) : Type 0 where
  pub count : length (title bytes) ≡ length bytes
  pub each : (place : ℕ) → place < length bytes → IsTitled bytes (title bytes) place

-- ---- strips

-- the six bytes that are blanks
abbrev pub the_blanks : List ℕ
the_blanks = 32 ∷ 9 ∷ 10 ∷ 11 ∷ 12 ∷ 13 ∷ []

-- if there are bytes, the first of them doesn't pass the test
abbrev pub FirstStays : (ℕ → Bool) → List ℕ → Type 0
FirstStays test bytes = 0 < length bytes → test (slice_index bytes 0) ≡ false

-- if there are bytes, the last of them doesn't pass the test
abbrev pub LastStays : (ℕ → Bool) → List ℕ → Type 0
LastStays test bytes = 0 < length bytes → test (slice_index bytes (length bytes - 1)) ≡ false

-- What is kept stands behind a front, each byte of which passes the test. What is kept doesn't begin with such a byte.
pub record LosesFront (test : ℕ → Bool) (bytes kept : List ℕ) : Type 0 where
  pub front : List ℕ
  pub whole : front ++ kept ≡ bytes
  pub front_goes : AllPass test front
  pub first : FirstStays test kept

-- What is kept stands before a back, each byte of which passes the test. What is kept doesn't end with such a byte.
pub record LosesBack (test : ℕ → Bool) (bytes kept : List ℕ) : Type 0 where
  pub back : List ℕ
  pub whole : kept ++ back ≡ bytes
  pub back_goes : AllPass test back
  pub last : LastStays test kept

-- What is kept stands between two such parts. It neither begins nor ends with such a byte.
pub record LosesEnds (test : ℕ → Bool) (bytes kept : List ℕ) : Type 0 where
  pub front : List ℕ
  pub back : List ℕ
  pub whole : front ++ (kept ++ back) ≡ bytes
  pub front_goes : AllPass test front
  pub back_goes : AllPass test back
  pub first : FirstStays test kept
  pub last : LastStays test kept

-- ---- runs

-- a run has some bytes, and none of them is a blank
pub record IsRun (run : List ℕ) : Type 0 where
  pub some : 0 < length run
  pub bare : list_any is_blank run ≡ false

-- gaps and runs in turn, a gap first
abbrev pub in_turn : List (List ℕ) → List (List ℕ) → List ℕ
in_turn [] given = concat given
in_turn (gap ∷ gaps) [] = gap ++ concat gaps
in_turn (gap ∷ gaps) (run ∷ more) = gap ++ (run ++ in_turn gaps more)

-- The bytes are gaps and these runs in turn. A gap has blanks alone, and a run has some bytes without a blank. At least
-- one blank stands between two runs.
pub record AreRunsOf (bytes : List ℕ) (given : List (List ℕ)) : Type 0 where
  pub gaps : List (List ℕ)
  pub count : length gaps ≡ length given + 1
  pub whole : in_turn gaps given ≡ bytes
  pub blank : All (λ gap. AllPass is_blank gap) gaps
  pub solid : All IsRun given
  pub between : (k : ℕ) → 0 < k → k < length given → 0 < length (slice_index_or gaps k [])

-- the parts are the first n runs, and then the rest of the bytes, from the next run on
pub record EndsWithRest (n : ℕ) (bytes : List ℕ) (parts : List (List ℕ)) : Type 0 where
  pub front : List ℕ
  pub rest : List ℕ
  pub whole : front ++ rest ≡ bytes
  pub first : FirstStays is_blank rest
  pub count : length (runs front) ≡ n
  pub same : runs front ++ runs rest ≡ runs bytes
  pub are : parts ≡ runs front ++ rest ∷ []

-- the parts are the rest of the bytes, up to the end of a run, and then the last n runs
pub record BeginsWithRest (n : ℕ) (bytes : List ℕ) (parts : List (List ℕ)) : Type 0 where
  pub rest : List ℕ
  pub back : List ℕ
  pub whole : rest ++ back ≡ bytes
  pub last : LastStays is_blank rest
  pub count : length (runs back) ≡ n
  pub same : runs rest ++ runs back ≡ runs bytes
  pub are : parts ≡ rest ∷ runs back

-- If bytes are cut at most n times, the parts are all their runs. If there are more than n runs, the parts are n of
-- them and the rest.
pub record AreCutFromLeft (n : ℕ) (bytes : List ℕ) (parts : List (List ℕ)) : Type 0 where
  pub few : length (runs bytes) ≤ n → parts ≡ runs bytes
  pub many : n < length (runs bytes) → EndsWithRest n bytes parts

-- The same if they are cut from the right.
pub record AreCutFromRight (n : ℕ) (bytes : List ℕ) (parts : List (List ℕ)) : Type 0 where
  pub few : length (runs bytes) ≤ n → parts ≡ runs bytes
  pub many : n < length (runs bytes) → BeginsWithRest n bytes parts

-- runs that are joined with a blank between each two of them come back
abbrev pub RunsComeBack : Type 0
RunsComeBack = (given : List (List ℕ)) → All IsRun given → runs (join_with_byte 32 given) ≡ given

-- with any greatest number of cuts, nothing but blanks is lost, and there is at most one part more than cuts
pub record LosesBlanksAlone (n : ℕ) (bytes : List ℕ) : Type 0 where
  pub kept : filter (λ b. not (is_blank b)) (concat (runs_up_to n bytes)) ≡ filter (λ b. not (is_blank b)) bytes
  pub count : length (runs_up_to n bytes) ≤ n + 1

-- ---- lines

-- the lines with their ends, put together, are the bytes, and none of these lines is empty
pub record LinesAreTheBytes (bytes : List ℕ) : Type 0 where
  pub joined : concat (whole_lines bytes) ≡ bytes
  pub some : All (λ line. 0 < length line) (whole_lines bytes)

-- What ends a line before the bytes behind it: a line feed, a carriage return that no line feed follows, or a carriage
-- return and a line feed. At the end of the bytes, a line that has a byte may lack an end.
abbrev pub EndsLine : List ℕ → List ℕ → List ℕ → Type 0
EndsLine text ending behind =
    (ending ≡ 10 ∷ [])
    ⊎ ((ending ≡ 13 ∷ []) × (begins_with_feed behind ≡ false))
    ⊎ (ending ≡ 13 ∷ 10 ∷ [])
    ⊎ ((ending ≡ []) × (behind ≡ []) × (0 < length text))

-- A line stands between other bytes as its text and its ending, and no byte of its text is a line feed or a
-- carriage return.
pub record StandsAsLine (bytes before line text behind : List ℕ) : Type 0 where
  pub ending : List ℕ
  pub place : before ++ (line ++ behind) ≡ bytes
  pub whole : line ≡ text ++ ending
  pub bare : list_any is_line_break text ≡ false
  pub ends : EndsLine text ending behind

-- There are as many lines with their ends as without. Each stands behind the lines before it and before those after it.
pub record LinesEndWhereEndsStand (bytes : List ℕ) : Type 0 where
  pub count : length (split_lines false bytes) ≡ length (split_lines true bytes)
  pub each : (k : ℕ) → k < length (split_lines true bytes)
      → StandsAsLine bytes (concat (take k (split_lines true bytes))) (slice_index_or (split_lines true bytes) k []) (slice_index_or (split_lines false bytes) k []) (concat (drop (k + 1) (split_lines true bytes)))
