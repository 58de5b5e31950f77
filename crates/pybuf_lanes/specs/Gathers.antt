-- Bytes that lie apart.
use Rattle.std.specs.Prelude.{ℕ, zero, suc, ◌*◌, List, [], ◌∷◌, ◌++◌, slice_index}

-- so many bytes from the first on, each so many places behind the one before
abbrev pub every : ℕ → ℕ → List ℕ → List ℕ
every step zero bytes = []
every step (suc n) bytes = every step n bytes ++ slice_index bytes (step * n) ∷ []
