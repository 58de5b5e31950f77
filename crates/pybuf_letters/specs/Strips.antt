-- Bytes without the bytes at their ends that pass a test.
use Rattle.std.specs.Prelude.{ℕ, Bool, ◌-◌, ◌==◌, List, length, take, drop, Option, Some, None}
use Rattle.std.specs.List.{list_any, prefix_len, suffix_len}
use Rattle.pybuf_letters.specs.Classes.{is_blank}

-- the bytes from the first one on that doesn't pass the test
abbrev pub stripped_left : (ℕ → Bool) → List ℕ → List ℕ
stripped_left test bytes = drop (prefix_len test bytes) bytes

-- the bytes up to the last one that doesn't pass the test
abbrev pub stripped_right : (ℕ → Bool) → List ℕ → List ℕ
stripped_right test bytes = take (length bytes - suffix_len test bytes) bytes

abbrev pub stripped : (ℕ → Bool) → List ℕ → List ℕ
stripped test bytes = stripped_right test (stripped_left test bytes)

-- which bytes are stripped: those that are named, or else the blanks
abbrev pub goes : Option (List ℕ) → ℕ → Bool
goes (Some chars) = λ b. list_any (λ c. c == b) chars
goes None = is_blank
