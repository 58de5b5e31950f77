-- The laws of digits, tables, widths, tabs and replacing.
use Rattle.std.specs.Prelude.{◌≡◌, ◌≢◌, ◌==◌, ◌||◌, ◌<◌, ◌≤◌, ◌≤ℤ◌, ◌+◌, ◌%◌, ℕ, Bool, not, ℤ, pos, List, ◌∷◌, [], ◌++◌, length, map, replicate, Ok, ◌⊎◌, IfOk, false, if◌then◌else◌}
use Rattle.std.specs.Int.{int_max}
use Rattle.std.specs.List.{All, flat_map, filter, list_any, suffix_len}
use Rattle.std.specs.Str.{byte}
use Rattle.hex.specs.Hex.{encode_lower, is_hex_digit}
use Rattle.pybuf_letters.specs.Lines.{is_line_break}
use Rattle.pybuf_shaping.specs.Digits.{bytes_of_hex, separated, groups_from_left, groups_from_right}
use Rattle.pybuf_shaping.specs.Tables.{all_bytes, translated, counterpart, table_of}
use Rattle.pybuf_shaping.specs.Replacing.{replaced}
use Rattle.pybuf_shaping.specs.Padding.{centered, justified_left, justified_right, zero_filled}
use Rattle.pybuf_shaping.specs.Tabs.{tab_size, expanded_from}

abbrev pub AreBytes : List ℕ → Type 0
AreBytes bytes = All (λ b. b < 256) bytes

-- ---- digits

-- the digits of bytes are read as these bytes
abbrev pub DigitsReadBack : List ℕ → Type 0
DigitsReadBack bytes = AreBytes bytes → bytes_of_hex (encode_lower bytes) ≡ Ok bytes

-- The groups, put together, are the bytes. All but the first are full, and the first isn't empty.
pub record AreFromRight (size : ℕ) (bytes : List ℕ) (groups : List (List ℕ)) : Type 0 where
  pub first : List ℕ
  pub others : List (List ℕ)
  pub parts : groups ≡ first ∷ others
  pub whole : flat_map (λ group. group) groups ≡ bytes
  pub begins : (0 < length first) × (length first ≤ size)
  pub full : All (λ group. length group ≡ size) others

-- The groups, put together, are the bytes. All but the last are full, and the last isn't empty.
pub record AreFromLeft (size : ℕ) (bytes : List ℕ) (groups : List (List ℕ)) : Type 0 where
  pub others : List (List ℕ)
  pub last : List ℕ
  pub parts : groups ≡ others ++ last ∷ []
  pub whole : flat_map (λ group. group) groups ≡ bytes
  pub full : All (λ group. length group ≡ size) others
  pub ends : (0 < length last) × (length last ≤ size)

-- Groups are counted from the right and from the left, as their names say.
pub record GroupsAreCounted (size : ℕ) (bytes : List ℕ) : Type 0 where
  pub right : AreFromRight size bytes (groups_from_right size bytes)
  pub left : AreFromLeft size bytes (groups_from_left size bytes)

-- a text without a byte
abbrev pub without : ℕ → List ℕ → List ℕ
without b text = filter (λ other. not (other == b)) text

-- If the separator is no digit, a text in groups without its separators is the digits of the bytes, one after another.
abbrev pub SeparatorsLeftOut : ℕ → List (List ℕ) → Type 0
SeparatorsLeftOut separator groups = AreBytes (flat_map (λ group. group) groups) → is_hex_digit separator ≡ false →
    without separator (separated separator groups) ≡ encode_lower (flat_map (λ group. group) groups)

-- ---- tables

-- the table that maps each byte to itself changes nothing
abbrev pub ByIdentity : List ℕ → Type 0
ByIdentity bytes = AreBytes bytes → translated all_bytes [] bytes ≡ bytes

-- if a table was made from two strings, each byte becomes its counterpart, once
abbrev pub EachOnce : List ℕ → List ℕ → List ℕ → Type 0
EachOnce from to bytes = AreBytes bytes → IfOk (table_of from to) (λ table. translated table [] bytes ≡ map (counterpart from to) bytes)

-- ---- widths

-- a result is as wide as asked for, or is the bytes themselves
abbrev pub IsWideOrSame : ℤ → List ℕ → List ℕ → Type 0
IsWideOrSame width bytes result = (result ≡ bytes) ⊎ (pos (length result) ≡ width)

pub record AreWideOrSame (width : ℤ) (fill : ℕ) (bytes : List ℕ) : Type 0 where
  pub center : IsWideOrSame width bytes (centered width fill bytes)
  pub left : IsWideOrSame width bytes (justified_left width fill bytes)
  pub right : IsWideOrSame width bytes (justified_right width fill bytes)
  pub zeros : IsWideOrSame width bytes (zero_filled width bytes)

-- The bytes stand whole in the result, and only fill bytes stand before and behind them. The result is as long as the
-- width or the bytes, whichever is greater.
pub record AreFilledUp (width : ℤ) (fill : ℕ) (before bytes behind result : List ℕ) : Type 0 where
  pub whole : result ≡ before ++ bytes ++ behind
  pub fills : All (λ b. b ≡ fill) before × All (λ b. b ≡ fill) behind
  pub wide : pos (length result) ≡ int_max width (pos (length bytes))

-- the two parts are equally long, or one has one byte more
abbrev pub AreHalves : List ℕ → List ℕ → Type 0
AreHalves before behind = (length before ≤ length behind + 1) × (length behind ≤ length before + 1)

-- the sign that bytes begin with, or nothing
abbrev pub sign_of : List ℕ → List ℕ
sign_of [] = []
sign_of (b ∷ bytes) = if b == byte "+" || b == byte "-" then b ∷ [] else []

-- Zeros stand behind the sign, if there is one, and before the rest of the bytes. The result is as long as the width or
-- the bytes, whichever is greater.
pub record AreZeroFilled (width : ℤ) (bytes result : List ℕ) : Type 0 where
  pub zeros : List ℕ
  pub rest : List ℕ
  pub parts : bytes ≡ sign_of bytes ++ rest
  pub whole : result ≡ sign_of bytes ++ zeros ++ rest
  pub fills : All (λ b. b ≡ byte "0") zeros
  pub wide : pos (length result) ≡ int_max width (pos (length bytes))

-- Padded bytes stand whole: in the middle, on the left, on the right, or behind zeros.
pub record PaddingKeepsBytes (width : ℤ) (fill : ℕ) (bytes : List ℕ) : Type 0 where
  pub center : (before behind : List ℕ) × AreFilledUp width fill before bytes behind (centered width fill bytes) × AreHalves before behind
  pub left : (behind : List ℕ) × AreFilledUp width fill [] bytes behind (justified_left width fill bytes)
  pub right : (before : List ℕ) × AreFilledUp width fill before bytes [] (justified_right width fill bytes)
  pub zeros : AreZeroFilled width bytes (zero_filled width bytes)

-- ---- tabs

abbrev pub holds_tab : List ℕ → Bool
holds_tab bytes = list_any (λ b. b == byte "\t") bytes

-- no tab is left, and if there was none, nothing changes
pub record TabsAreSpaces (size : ℕ) (bytes : List ℕ) : Type 0 where
  pub none : holds_tab (expanded_from size 0 bytes) ≡ false
  pub same : holds_tab bytes ≡ false → expanded_from size 0 bytes ≡ bytes

-- bytes with their tabs as spaces, if columns have this size
abbrev pub spaced : ℤ → List ℕ → List ℕ
spaced size bytes = expanded_from (tab_size size) 0 bytes

-- the column behind a text: how many bytes stand at its end, behind its last line break
abbrev pub column_of : List ℕ → ℕ
column_of text = suffix_len (λ b. not (is_line_break b)) text

-- What a tab behind a text adds: at least one space, and as many as lead to the next column that is a multiple of the
-- size.
pub record LeadsToStop (size : ℕ) (text : List ℕ) : Type 0 where
  pub spaces : ℕ
  pub some : (0 < spaces) × (spaces ≤ size)
  pub adds : spaced (pos size) (text ++ byte "\t" ∷ []) ≡ spaced (pos size) text ++ replicate spaces (byte " ")
  pub stop : (column_of (spaced (pos size) text) + spaces) % size ≡ 0

-- What one more byte adds to a text. A tab adds the spaces to the next stop, or nothing if the size is 0 or less. Every
-- other byte adds itself. If there are no bytes, the result has none.
pub record TabsLeadToStops (text : List ℕ) : Type 0 where
  pub empty : (size : ℤ) → spaced size [] ≡ []
  pub stop : (size : ℕ) → 0 < size → LeadsToStop size text
  pub none : (size : ℤ) → size ≤ℤ pos 0 → spaced size (text ++ byte "\t" ∷ []) ≡ spaced size text
  pub other : (size : ℤ) (b : ℕ) → b ≢ byte "\t" → spaced size (text ++ b ∷ []) ≡ spaced size text ++ b ∷ []

-- ---- replacing

-- a needle that takes the place of its own matches changes nothing
abbrev pub BySame : ℤ → List ℕ → List ℕ → Type 0
BySame most old bytes = replaced most old old bytes ≡ bytes
