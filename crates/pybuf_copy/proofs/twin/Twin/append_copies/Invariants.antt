use Rattle.std.proofs.Common.{◌≡◌, ◌+◌, ◌++◌, List, take, vec_len, vec_capacity}
use Rattle.std.specs.List.{AllZip}
use Rattle.pybuf_copy.proofs.twin.Twin.append_copies.Given as goal

abbrev pub invariant-loop-item : goal.invariant-loop-item
invariant-loop-item g l =
    ((copies : List g.row.Self.Denot) × (l.list.items ≡ l.initial.list.items ++ copies) × AllZip g.Self.Twin.same (take l.item-index l.items) copies)
    × (vec_len l.list ≡ vec_len l.initial.list + l.item-index)
    × (vec_capacity l.list ≡ vec_capacity l.initial.list)
