-- Facts about the definitions of this crate, with their proofs, for the proofs of the crates above.
use Rattle.std.proofs.Common.{◌≡◌, ℕ, suc, ◌-◌, ◌<◌, ◌≤◌, ◌/◌, List, ◌∷◌, length, take, drop, sym, ◌∙◌, ap}
use Rattle.std.proofs.lemmas.List.{length-drop}
use Rattle.pybuf_lemmas.proofs.Numbers.{quotient_more}
use Rattle.pybuf_struct.specs.Formats.{Format}
use Rattle.pybuf_struct.specs.Values.{values}
use Rattle.pybuf_table.specs.Records.{rows, rows_of}

pub rows_more : (f : Format) (bytes : List ℕ) → 0 < f.size → f.size ≤ length bytes → rows f bytes ≡ values f (take f.size bytes) ∷ rows f (drop f.size bytes)
rows_more f bytes some within =
    let left : length (drop f.size bytes) ≡ length bytes - f.size = length-drop f.size bytes in
    let count : length bytes / f.size ≡ suc (length (drop f.size bytes) / f.size) = quotient_more (length bytes) f.size some within ∙ ap (λ (n : ℕ). suc (n / f.size)) (sym left) in
    ap (λ (n : ℕ). rows_of f n bytes) count
