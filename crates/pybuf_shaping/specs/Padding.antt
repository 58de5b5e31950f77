-- Bytes filled up to a width.
use Rattle.std.specs.Prelude.{ℕ, ◌+◌, ◌-◌, ◌/◌, ◌%◌, ◌==◌, ◌&&◌, ◌||◌, ℤ, pos, negsuc, List, [], ◌∷◌, ◌++◌, length, take, drop, replicate, if◌then◌else◌}
use Rattle.std.specs.Str.{byte}

-- how many bytes are missing to reach a width
abbrev pub missing : ℤ → List ℕ → ℕ
missing (pos width) bytes = width - length bytes
missing (negsuc _) bytes = 0

-- bytes between fill bytes, this many on each side
abbrev pub padded : ℕ → ℕ → ℕ → List ℕ → List ℕ
padded left right fill bytes = replicate left fill ++ bytes ++ replicate right fill

abbrev pub justified_left : ℤ → ℕ → List ℕ → List ℕ
justified_left width fill bytes = padded 0 (missing width bytes) fill bytes

abbrev pub justified_right : ℤ → ℕ → List ℕ → List ℕ
justified_right width fill bytes = padded (missing width bytes) 0 fill bytes

-- How many of the missing bytes stand on the left. If their number is odd, one side gets one more: the left if the
-- width is odd too, else the right.
abbrev pub left_share : ℤ → ℕ → ℕ
left_share (pos width) count = if count % 2 == 1 && width % 2 == 1 then count / 2 + 1 else count / 2
left_share (negsuc _) count = count / 2

abbrev pub centered_by : ℕ → ℕ → ℕ → List ℕ → List ℕ
centered_by left count fill bytes = padded left (count - left) fill bytes

abbrev pub centered : ℤ → ℕ → List ℕ → List ℕ
centered width fill bytes = centered_by (left_share width (missing width bytes)) (missing width bytes) fill bytes

-- the length of the sign that bytes begin with, or 0
abbrev pub sign_length : List ℕ → ℕ
sign_length [] = 0
sign_length (b ∷ bytes) = if b == byte "+" || b == byte "-" then 1 else 0

-- bytes with zeros up to a width; the zeros stand behind a sign
abbrev pub zero_filled : ℤ → List ℕ → List ℕ
zero_filled width bytes = take (sign_length bytes) bytes ++ replicate (missing width bytes) (byte "0") ++ drop (sign_length bytes) bytes
