-- Counts of a list from whose front one chunk after another is cut.
use Rattle.std.proofs.Common.{◌≡◌, ℕ, ◌+◌, Bool, List, take, drop, count_by, cond, ap, ◌∙◌, arith}
use Rattle.std.proofs.lemmas.List.Sums.{sum_by-take-drop}

pub one_chunk_less : (test : ℕ → Bool) (size : ℕ) (rest front behind : List ℕ) (so_far here all : ℕ) → here ≡ count_by test front → front ≡ take size rest → behind ≡ drop size rest
    → so_far + count_by test rest ≡ all → so_far + here + count_by test behind ≡ all
one_chunk_less test size rest front behind so_far here all is cut left counted =
    let parts : count_by test (take size rest) + count_by test (drop size rest) ≡ count_by test rest = sum_by-take-drop (λ x. cond (test x) 1 0) rest size in
    omega (arith, parts, is ∙ ap (count_by test) cut, ap (count_by test) left)
