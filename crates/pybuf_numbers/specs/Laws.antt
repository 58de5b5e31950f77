-- The laws that tie numbers to their bytes.
use Rattle.std.specs.Prelude.{◌≡◌, ℕ, ◌<◌, true, List, ℤ, All}
use Rattle.pybuf_numbers.specs.declared.codes.ArrayCode.{ArrayCode}
use Rattle.pybuf_numbers.specs.Codes.{holds}
use Rattle.pybuf_numbers.specs.Numbers.{numbers_of, bytes_of, is_whole, swapped}

-- a number is in the range of a code
abbrev pub Fits : ArrayCode → ℤ → Type 0
Fits c n = holds c n ≡ true

-- the bytes of numbers in range are whole, and spell these numbers
pub record ReadsBack (c : ArrayCode) (list : List ℤ) : Type 0 where
  pub numbers : numbers_of c (bytes_of c list) ≡ list
  pub whole : is_whole c (bytes_of c list) ≡ true

abbrev pub NumbersReadBack : Type 0
NumbersReadBack = (c : ArrayCode) (list : List ℤ) → All (Fits c) list → ReadsBack c list

-- if bytes are whole, they are the bytes of the numbers that they spell
abbrev pub BytesReadBack : Type 0
BytesReadBack = (c : ArrayCode) (bytes : List ℕ) → All (λ b. b < 256) bytes → is_whole c bytes ≡ true → bytes_of c (numbers_of c bytes) ≡ bytes

-- bytes spell numbers that are in range
abbrev pub NumbersAreInRange : Type 0
NumbersAreInRange = (c : ArrayCode) (bytes : List ℕ) → All (λ b. b < 256) bytes → All (Fits c) (numbers_of c bytes)

-- If the bytes of a number in range are reversed, they spell a number in range. If they are reversed twice, they spell
-- the number itself.
pub record SwapsBack (c : ArrayCode) (n : ℤ) : Type 0 where
  pub fits : Fits c (swapped c n)
  pub twice : swapped c (swapped c n) ≡ n

abbrev pub SwappingTwiceIsNothing : Type 0
SwappingTwiceIsNothing = (c : ArrayCode) (n : ℤ) → Fits c n → SwapsBack c n
