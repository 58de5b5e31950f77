-- Numbers of one code that lie one after the other in bytes.
use Rattle.std.specs.Prelude.{ℕ, ◌/◌, ◌%◌, ◌==◌, Bool, false, List, length, map, reverse, ℤ}
use Rattle.std.specs.List.{flat_map}
use Rattle.std.specs.Simd.{first_chunks}
use Rattle.pybuf_struct.specs.Digits as digits
use Rattle.pybuf_struct.specs.Packing as packing
use Rattle.pybuf_numbers.specs.declared.codes.ArrayCode.{ArrayCode}
use Rattle.pybuf_numbers.specs.Codes.{size_of, is_signed}

-- the number that its bytes spell; the first byte is worth least, and signed numbers are in two's complement
abbrev pub number_in : ArrayCode → List ℕ → ℤ
number_in c bytes = digits.number false (is_signed c) bytes

-- the bytes of a number that is in the range of the code
abbrev pub digits_of : ArrayCode → ℤ → List ℕ
digits_of c n = packing.digits_of false (size_of c) (packing.complement_of (size_of c) n)

-- how many numbers the bytes have room for
abbrev pub count_in : ArrayCode → List ℕ → ℕ
count_in c bytes = length bytes / size_of c

-- the numbers that bytes spell, one after the other
abbrev pub numbers_of : ArrayCode → List ℕ → List ℤ
numbers_of c bytes = map (number_in c) (first_chunks (size_of c) (count_in c bytes) bytes)

-- the bytes of numbers, one after the other
abbrev pub bytes_of : ArrayCode → List ℤ → List ℕ
bytes_of c numbers = flat_map (digits_of c) numbers

-- whether no byte is left over behind the last number
abbrev pub is_whole : ArrayCode → List ℕ → Bool
is_whole c bytes = length bytes % size_of c == 0

-- the number whose bytes are those of a number in the other order
abbrev pub swapped : ArrayCode → ℤ → ℤ
swapped c n = number_in c (reverse (digits_of c n))
