-- One byte replaces another, by two definitions that agree.
use Rattle.std.proofs.Common.{◌≡◌, ℕ, ◌+◌, ◌<◌, List, [], ◌∷◌, ◌++◌, length, take, drop, slice_set, append_assoc, add-one}
use Rattle.std.proofs.lemmas.List.{set_split}

pub one_written : (bytes : List ℕ) (i x : ℕ) → i < length bytes → take i bytes ++ (x ∷ []) ++ drop (i + 1) bytes ≡ slice_set bytes i x
one_written bytes i x inside = rw (append_assoc, set_split, add-one)
