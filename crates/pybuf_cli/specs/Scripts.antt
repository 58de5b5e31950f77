-- The text of a script, which has a line for each command.
use Rattle.std.specs.Prelude.{ℕ, ◌+◌, ◌*◌, ◌/◌, ◌%◌, ◌==◌, List, [], ◌∷◌, ◌++◌, codes, decimal, if◌then◌else◌}
use Rattle.std.specs.List.{flat_map, range_with_len}
use Rattle.pybuf_line.specs.Laws.{ended_line}

abbrev pub viewed_lines : ℕ → ℕ → List (List ℕ)
viewed_lines first second =
    codes "view h0"
    ∷ (codes "get h" ++ decimal first ++ codes " None:None:-1")
    ∷ (codes "bytes h" ++ decimal second)
    ∷ codes "append h0 0"
    ∷ (codes "release h" ++ decimal first)
    ∷ (codes "release h" ++ decimal second)
    ∷ []

-- Each round adds a byte. After every fourth byte the first byte is taken out. After every sixteenth, the bytes
-- are read through two views, which have the next two handles, while a byte is added.
abbrev pub round_lines : ℕ → List (List ℕ)
round_lines k =
    (codes "append h0 " ++ decimal ((7 * k + 3) % 256))
    ∷ (if k % 4 == 3 then codes "pop h0 0" ∷ [] else [])
    ++ (if k % 16 == 15 then viewed_lines (2 * (k / 16) + 1) (2 * (k / 16) + 2) else [])

abbrev pub script_lines : ℕ → List (List ℕ)
script_lines n = codes "new bytearray x" ∷ flat_map round_lines (range_with_len 0 n) ++ codes "bytes h0" ∷ []

-- the text of a script, each line with its line feed
abbrev pub script_text : ℕ → List ℕ
script_text n = flat_map ended_line (script_lines n)
