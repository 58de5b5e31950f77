-- Lines of a walk.
use Rattle.std.proofs.Common.{◌≡◌, ℕ, ℤ, pos, List, ◌∷◌, subst}
use Rattle.pybuf_lemmas.proofs.Recursion.{left_by_recursion, right_by_recursion}
use Rattle.pybuf_desc.specs.Segments.{line, places_left}
use Rattle.pybuf_desc.proofs.WalkLemmas.{AllInside}

-- ---- the next row is taken whole

abbrev pub rows_places : ℤ → ℕ → List ℤ → List ℤ
rows_places stride row_len rows = places_left 0 stride 0 row_len rows

pub row_inside : (place row_len size : ℕ) (stride : ℤ) (lefts rest : List ℤ) → lefts ≡ pos place ∷ rest → AllInside size (rows_places stride row_len lefts)
    → AllInside size (line (pos place) stride row_len)
row_inside place row_len size stride lefts rest same all =
    left_by_recursion _ (line (pos place) stride row_len) (rows_places stride row_len rest) (subst (λ xs. AllInside size (rows_places stride row_len xs)) same all)

pub rest_inside : (place row_len size : ℕ) (stride : ℤ) (lefts rest : List ℤ) → lefts ≡ pos place ∷ rest → AllInside size (rows_places stride row_len lefts)
    → AllInside size (rows_places stride row_len rest)
rest_inside place row_len size stride lefts rest same all =
    right_by_recursion _ (line (pos place) stride row_len) (rows_places stride row_len rest) (subst (λ xs. AllInside size (rows_places stride row_len xs)) same all)

-- ---- the rest of a row is taken

pub begun_inside : (place : ℕ) (stride : ℤ) (left row_len size : ℕ) (rows : List ℤ) → AllInside size (places_left place stride left row_len rows) → AllInside size (line (pos place) stride left)
begun_inside place stride left row_len size rows all = left_by_recursion _ (line (pos place) stride left) (rows_places stride row_len rows) all

pub others_inside : (place : ℕ) (stride : ℤ) (left row_len size : ℕ) (rows : List ℤ) → AllInside size (places_left place stride left row_len rows) → AllInside size (rows_places stride row_len rows)
others_inside place stride left row_len size rows all = right_by_recursion _ (line (pos place) stride left) (rows_places stride row_len rows) all
