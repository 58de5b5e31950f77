use Rattle.std.proofs.Common.{◌≡◌, ◌<◌, ◌≤◌, ℕ, ◌∷◌, length, take, drop}
use Rattle.pybuf_slice.specs.Edits.{has, elements_off, IsRisingFrom}
use Rattle.pybuf_slice.proofs.edits.close_up_indexes.Given as goal

abbrev pub invariant-loop-place : goal.invariant-loop-place
invariant-loop-place g l =
    (take l.kept l.items ≡ elements_off (take l.place l.fn.items) l.fn.indexes)
    × (drop l.place l.items ≡ drop l.place l.fn.items)
    × (l.kept ≤ l.place)
    × (length l.items ≡ length l.fn.items)
    × ((q : ℕ) → l.place ≤ q → q < l.range.end → has l.fn.indexes q ≡ has (l.next ∷ l.indexes) q)
    × IsRisingFrom l.place (l.next ∷ l.indexes)
