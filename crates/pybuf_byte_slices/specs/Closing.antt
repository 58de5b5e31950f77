-- Runs that move together.
use Rattle.std.specs.Prelude.{ℕ, suc, ◌+◌, ◌*◌, List, ◌++◌, take, drop}
use Rattle.pybuf_strided.specs.Apart.{pieces_at}

-- the place of run k, if one byte that is to be taken out stands before each run
abbrev pub run_place : ℕ → ℕ → ℕ → ℕ
run_place low size k = suc low + k * suc size

-- The bytes after this many runs of one size have moved down to a place, one run after the other. Before each run stood
-- one byte that is to be taken out. The bytes behind the moved runs are as they were.
abbrev pub closed_runs : List ℕ → ℕ → ℕ → ℕ → List ℕ
closed_runs bytes low size count = take low bytes ++ (pieces_at bytes (run_place low size) size count ++ drop (low + count * size) bytes)
