-- The blanks.
use Rattle.std.specs.Prelude.{ℕ, Bool, ◌&&◌, ◌||◌, ◌==◌, nat_le}

-- the space, and the five bytes from the tab to the carriage return
abbrev pub is_blank : ℕ → Bool
is_blank b = b == 32 || nat_le 9 b && nat_le b 13
