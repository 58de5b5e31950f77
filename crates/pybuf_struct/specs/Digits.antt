-- Numbers from digits in base 256.
use Rattle.std.specs.Prelude.{ℕ, suc, ◌+◌, ◌*◌, ◌^◌, Bool, true, false, ◌&&◌, ◌||◌, ◌==◌, List, [], ◌∷◌, length, nat_le, if◌then◌else◌, ℤ, pos, ◌-ℤ◌}

-- digits in base 256, little-endian: the first is worth 256 to the power i, and each further one 256 times more
abbrev pub little_endian : ℕ → List ℕ → ℕ
little_endian i [] = 0
little_endian i (digit ∷ digits) = digit * 256 ^ i + little_endian (suc i) digits

-- digits in base 256, big-endian: the last is worth 1, and each one before it is worth 256 times more
abbrev pub big_endian : List ℕ → ℕ
big_endian [] = 0
big_endian (digit ∷ digits) = digit * 256 ^ length digits + big_endian digits

-- the number that bytes spell without a sign, either big-endian or little-endian
abbrev pub unsigned_number : Bool → List ℕ → ℕ
unsigned_number true bytes = big_endian bytes
unsigned_number false bytes = little_endian 0 bytes

-- whether n, as a number of this many bytes, has 1 as its first binary digit
abbrev pub has_top_bit : ℕ → ℕ → Bool
has_top_bit len n = nat_le (256 ^ len) (2 * n)

-- n as a number of this many bytes, which is in two's complement if it is signed
abbrev pub signed_as : Bool → ℕ → ℕ → ℤ
signed_as signed len n = if signed && has_top_bit len n then pos n -ℤ pos (256 ^ len) else pos n

-- the number that bytes spell, either big-endian or little-endian, and either signed or not
abbrev pub number : Bool → Bool → List ℕ → ℤ
number big signed bytes = signed_as signed (length bytes) (unsigned_number big bytes)

-- whether a number can have this size
abbrev pub is_width : ℕ → Bool
is_width n = n == 1 || (n == 2 || (n == 4 || n == 8))
