-- Laws of lines of sessions.
use Rattle.std.specs.Prelude.{◌≡◌, ◌⊎◌, ℕ, ◌+◌, ◌^◌, ◌<◌, ◌≤◌, List, [], ◌∷◌, ◌++◌, length, map, decimal, slice_get, Option, Some, None, Ok, Err}
use Rattle.std.specs.Str.{byte}
use Rattle.std.specs.List.{join_with_byte, sum_by, All}
use Rattle.hex.specs.Hex.{IsBytes, encode_lower}
use Rattle.pybuf_command.specs.declared.kinds.ExporterKind.{ExporterKind}
use Rattle.pybuf_command.specs.declared.kinds.Subject.{Subject}
use Rattle.pybuf_command.specs.declared.kinds.Subject.TheVariants as subject
use Rattle.pybuf_command.specs.declared.loans.Loan.{Loan}
use Rattle.pybuf_command.specs.declared.commands.Verb.{Verb}
use Rattle.pybuf_command.specs.declared.commands.LocalCommand.{LocalCommand}
use Rattle.pybuf_command.specs.Handles.{handles_of}
use Rattle.pybuf_line.specs.declared.words.Word.TheVariants as word
use Rattle.pybuf_line.specs.Words.{written_word, written_kind}
use Rattle.pybuf_line.specs.Lines.{lines}
use Rattle.pybuf_line.specs.Commands.{word_of, written_arguments}
use Rattle.pybuf_line.specs.Laws.{IsSpelledVerb}
use Rattle.pybuf_share.specs.History.{Opening}
use Rattle.pybuf_share.specs.Working.{ScriptFits}
use Rattle.pybuf_sessions.specs.Names.{name_text, lent_as}
use Rattle.pybuf_sessions.specs.Asks.{ask_in}
use Rattle.pybuf_sessions.specs.Scripts.{script_of}
use Rattle.pybuf_sessions.specs.Sessions.{opening_in, sessions_in}
use Rattle.pybuf_sessions.specs.declared.asks.Ask.{Ask}
use Rattle.pybuf_sessions.specs.declared.sessions.Sessions.{Sessions}

-- the names that lines spell, whose views and iterators have numbers below 2^64
abbrev pub IsCounted : Subject → Type 0
IsCounted subject.Own = Unit {0}
IsCounted (subject.View k) = k < 2 ^ 64
IsCounted (subject.Iter k) = k < 2 ^ 64

-- The handles are numbered from n on, in order.
abbrev pub AreNumbered : ℕ → List ℕ → Type 0
AreNumbered n [] = Unit {0}
AreNumbered n (h ∷ more) = (h ≡ n) × AreNumbered (n + 1) more

-- what handles are lent as, by what each names
abbrev pub lent_by : (ℕ → Subject) → List ℕ → List (ℕ × Loan)
lent_by named handles = map (λ h. (h, lent_as (named h))) handles

-- how a command of a session is written, with names for what its handles name
abbrev pub written_line : ℕ → Subject → Verb → (ℕ → Subject) → List ℕ
written_line session s v named =
    join_with_byte (byte " ") (decimal session ∷ written_word (word_of v) ∷ name_text s ∷ written_arguments (λ h. name_text (named h)) v)

-- what that line asks for
abbrev pub written_ask : ℕ → Subject → Verb → (ℕ → Subject) → Ask
written_ask session s v named = record { session = session; command = record { subject = s; verb = v; loans = lent_by named (handles_of v) } }

-- A line that was written is read back, with its names.
abbrev pub SessionLinesReadBack : Type 0
SessionLinesReadBack = (session : ℕ) (s : Subject) (v : Verb) (named : ℕ → Subject) → session < 16 → IsCounted s → ((h : ℕ) → IsCounted (named h)) →
    IsSpelledVerb v → AreNumbered 0 (handles_of v) → ask_in (written_line session s v named) ≡ Some (written_ask session s v named)

-- how the first line is written
abbrev pub written_opening : ExporterKind → List ℕ → List ℕ
written_opening k bytes = join_with_byte (byte " ") (written_word word.New ∷ written_kind k ∷ (byte "x" ∷ encode_lower bytes) ∷ [])

-- A first line that was written is read back.
abbrev pub OpeningsReadBack : Type 0
OpeningsReadBack = (k : ExporterKind) (bytes : List ℕ) → IsBytes bytes → opening_in (written_opening k bytes) ≡ Some (record { kind = k; bytes = bytes })

-- Scripts can be carried out if there are 1 to 16 sessions and their loans fit.
pub record AreRunnable (scripts : List (List LocalCommand)) : Type 0 where
  pub some : 0 < length scripts
  pub few : length scripts ≤ 16
  pub fit : All ScriptFits scripts

-- The scripts of an input can be carried out.
abbrev pub SessionsAreRunnable : Type 0
SessionsAreRunnable = (input : List ℕ) (s : Sessions) → sessions_in input ≡ Ok s → AreRunnable s.scripts

-- The lines of an input are those of its sessions. The first gives the exporter, and each of the others asks
-- for something in a session that there is. The script of a session is what it asks for, in order, and nothing
-- else is in a script.
pub record AreOfLines (s : Sessions) (first : List ℕ) (rest : List (List ℕ)) : Type 0 where
  pub opening : opening_in first ≡ Some (record { kind = s.kind; bytes = s.bytes })
  pub asks : List Ask
  pub asked : map ask_in rest ≡ map Some asks
  pub of_sessions : All (λ a. a.session < length s.scripts) asks
  pub scripts : (k : ℕ) → k < length s.scripts → slice_get s.scripts k ≡ Some (script_of asks k)
  pub once : sum_by length s.scripts ≡ length asks

abbrev pub SessionsAreOfLines : Type 0
SessionsAreOfLines = (input : List ℕ) (s : Sessions) → sessions_in input ≡ Ok s →
    (first : List ℕ) × (rest : List (List ℕ)) × (lines input ≡ first ∷ rest) × AreOfLines s first rest

-- A line behind the first one asks for nothing, and it is the first such line.
pub record IsFirstWrong (n : ℕ) (first : List ℕ) (rest : List (List ℕ)) : Type 0 where
  pub opening : Opening
  pub opens : opening_in first ≡ Some opening
  pub asks : List Ask
  pub others : List (Option Ask)
  pub asked : map ask_in rest ≡ map Some asks ++ None ∷ others
  pub number : n ≡ length asks + 2

-- The first line is wrong, or there is no line.
abbrev pub IsWithoutFirst : List (List ℕ) → Type 0
IsWithoutFirst [] = Unit {0}
IsWithoutFirst (first ∷ rest) = opening_in first ≡ None

-- Line n is wrong, and no line before it is.
abbrev pub IsWrongAt : ℕ → List (List ℕ) → Type 0
IsWrongAt n [] = ⊥
IsWrongAt n (first ∷ rest) = IsFirstWrong n first rest

-- The number that is told is that of the first line that is wrong.
abbrev pub WrongLineIsFirst : Type 0
WrongLineIsFirst = (input : List ℕ) (n : ℕ) → sessions_in input ≡ Err n →
    ((n ≡ 1) × IsWithoutFirst (lines input)) ⊎ IsWrongAt n (lines input)
