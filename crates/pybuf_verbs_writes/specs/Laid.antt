-- Bytes that are written over others: a piece from a place on, and bytes over the items of a view.
use Rattle.std.specs.Prelude.{ℕ, ◌+◌, List, [], ◌∷◌, ◌++◌, take, drop, length}

-- the bytes with a piece in place of those from a place on
abbrev pub bytes_with : List ℕ → ℕ → List ℕ → List ℕ
bytes_with bytes start piece = take start bytes ++ piece ++ drop (start + length piece) bytes

-- Item by item: the first of these bytes replace those of the first item, and the next bytes those of the next
-- item.
abbrev pub laid : List ℕ → ℕ → List ℕ → List ℕ → List ℕ
laid bytes size [] content = bytes
laid bytes size (start ∷ starts) content = laid (bytes_with bytes start (take size content)) size starts (drop size content)
