-- The text for an input that doesn't have as many bytes as its shape.
use Rattle.std.specs.Prelude.{ℕ, List, ◌++◌, codes, decimal}

-- how many bytes there are, and how many there should be
abbrev pub misfit_text : ℕ → ℕ → List ℕ
misfit_text count due = decimal count ++ codes " bytes, not " ++ decimal due ++ codes "\n"
