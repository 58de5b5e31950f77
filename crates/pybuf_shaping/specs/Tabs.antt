-- Tabs as spaces up to the next column that is a multiple of a size.
use Rattle.std.specs.Prelude.{ℕ, zero, suc, ◌+◌, ◌-◌, ◌%◌, ◌==◌, ◌||◌, ℤ, pos, negsuc, List, [], ◌∷◌, ◌++◌, replicate, Result, if◌then◌else◌}
use Rattle.pybuf_value.specs.declared.faults.Fault.{Fault}
use Rattle.pybuf_value.specs.Texts.{fitted}
use Rattle.std.specs.Str.{byte}

-- how many spaces a tab at a column stands for; none if the size is 0
abbrev pub spaces_at : ℕ → ℕ → ℕ
spaces_at zero column = 0
spaces_at (suc size) column = suc size - column % suc size

-- the column behind a byte that is no tab; an end of a line leads back to column 0
abbrev pub column_behind : ℕ → ℕ → ℕ
column_behind column b = if b == byte "\n" || b == byte "\r" then 0 else column + 1

-- bytes that stand from a column on, with their tabs as spaces
abbrev pub expanded_from : ℕ → ℕ → List ℕ → List ℕ
expanded_from size column [] = []
expanded_from size column (b ∷ bytes) =
    if b == byte "\t" then replicate (spaces_at size column) (byte " ") ++ expanded_from size (column + spaces_at size column) bytes
    else b ∷ expanded_from size (column_behind column b) bytes

-- a size of 0 or less drops the tabs
abbrev pub tab_size : ℤ → ℕ
tab_size (pos size) = size
tab_size (negsuc _) = 0

abbrev pub expanded : ℕ → List ℕ → Result (List ℕ) Fault
expanded size bytes = fitted (expanded_from size 0 bytes)
