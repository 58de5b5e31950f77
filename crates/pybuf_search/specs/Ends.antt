-- What bytes begin and end with.
use Rattle.std.specs.Prelude.{ℕ, ◌-◌, Bool, ◌&&◌, nat_le, List, length, take, drop, if◌then◌else◌}
use Rattle.memchr.specs.Find.{occurs_at}

abbrev pub begins_with : List ℕ → List ℕ → Bool
begins_with bytes prefix = occurs_at bytes prefix 0

abbrev pub ends_with : List ℕ → List ℕ → Bool
ends_with bytes suffix = nat_le (length suffix) (length bytes) && occurs_at bytes suffix (length bytes - length suffix)

-- the bytes without a prefix that they begin with, once
abbrev pub without_prefix : List ℕ → List ℕ → List ℕ
without_prefix bytes prefix = if begins_with bytes prefix then drop (length prefix) bytes else bytes

-- the bytes without a suffix that they end with, once
abbrev pub without_suffix : List ℕ → List ℕ → List ℕ
without_suffix bytes suffix = if ends_with bytes suffix then take (length bytes - length suffix) bytes else bytes
