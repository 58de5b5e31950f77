-- Which texts are read as bytes: pairs of digits with blanks around them, and nothing else.
use Rattle.std.specs.Prelude.{◌≡◌, ◌↔◌, ◌⊎◌, ⊤, ℕ, ◌+◌, ◌*◌, true, false, List, [], ◌∷◌, ◌++◌, map, Contains, Ok, Err, Option, Some, None}
use Rattle.std.specs.List.{All, flat_map}
use Rattle.hex.specs.Hex.{hex_digit_value, is_hex_digit}
use Rattle.pybuf_value.specs.declared.faults.Fault.{Fault}
use Rattle.pybuf_value.specs.declared.faults.Fault.TheVariants as fault
use Rattle.pybuf_letters.specs.Laws.{the_blanks}
use Rattle.pybuf_shaping.specs.Digits.{bytes_of_hex}

-- two digits, with what stands between them and the pair before them
pub record Pair : Type 0 where
  pub before : List ℕ
  pub high : ℕ
  pub low : ℕ

-- only blanks stand before the first digit, and the second digit stands right behind it
pub record IsPair (pair : Pair) : Type 0 where
  pub blank : All (Contains the_blanks) pair.before
  pub high : is_hex_digit pair.high ≡ true
  pub low : is_hex_digit pair.low ≡ true

abbrev pub text_of_pair : Pair → List ℕ
text_of_pair pair = pair.before ++ pair.high ∷ pair.low ∷ []

-- the value of a digit, or 0 for what is no digit
abbrev pub value_or_0 : Option ℕ → ℕ
value_or_0 (Some value) = value
value_or_0 None = 0

abbrev pub byte_of_pair : Pair → ℕ
byte_of_pair pair = value_or_0 (hex_digit_value pair.high) * 16 + value_or_0 (hex_digit_value pair.low)

-- The text is pairs, one after another, and blanks behind the last pair. The bytes are those of the pairs, in order.
pub record SpellsBytes (text bytes : List ℕ) : Type 0 where
  pub pairs : List Pair
  pub behind : List ℕ
  pub whole : flat_map text_of_pair pairs ++ behind ≡ text
  pub are : All IsPair pairs
  pub blank : All (Contains the_blanks) behind
  pub values : map byte_of_pair pairs ≡ bytes

-- the text is over, or begins with a byte that is no digit
abbrev pub LacksDigit : List ℕ → Type 0
LacksDigit [] = ⊤
LacksDigit (c ∷ text) = is_hex_digit c ≡ false

-- The text begins with a byte that is neither a blank nor a digit, or with a digit that no digit follows.
pub record BreaksPair (text : List ℕ) : Type 0 where
  pub first : ℕ
  pub rest : List ℕ
  pub begins : text ≡ first ∷ rest
  pub printed : ¬ Contains the_blanks first
  pub broken : (is_hex_digit first ≡ false) ⊎ ((is_hex_digit first ≡ true) × LacksDigit rest)

-- behind some pairs, the text goes on with what is no pair
pub record IsBroken (text : List ℕ) : Type 0 where
  pub front : List ℕ
  pub rest : List ℕ
  pub bytes : List ℕ
  pub whole : front ++ rest ≡ text
  pub spells : SpellsBytes front bytes
  pub breaks : BreaksPair rest

-- a text is read as the bytes that it spells, and is refused exactly if it is broken
pub record HexIsReadInPairs (text : List ℕ) : Type 0 where
  pub read : (bytes : List ℕ) → (bytes_of_hex text ≡ Ok bytes) ↔ SpellsBytes text bytes
  pub refused : (f : Fault) → (bytes_of_hex text ≡ Err f) ↔ ((f ≡ fault.Value) × IsBroken text)
