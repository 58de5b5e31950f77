-- Bytes that are written over the items of a view, byte by byte.
use Rattle.std.specs.Prelude.{ℕ, List, [], ◌∷◌, set}

-- Each byte is set at its place, one after the other, as long as both a place and a byte are left.
abbrev pub put_at : List ℕ → List ℕ → List ℕ → List ℕ
put_at bytes [] content = bytes
put_at bytes (place ∷ places) [] = bytes
put_at bytes (place ∷ places) (b ∷ content) = put_at (set bytes place b) places content
