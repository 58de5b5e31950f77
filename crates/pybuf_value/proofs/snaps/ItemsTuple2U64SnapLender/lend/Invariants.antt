use Rattle.std.proofs.Common.{◌≡◌, drop}
use Rattle.pybuf_value.specs.Snaps.{snap_of}
use Rattle.pybuf_value.proofs.snaps.ItemsTuple2U64SnapLender.lend.Given as goal

abbrev pub invariant-loop-pair : goal.invariant-loop-pair
invariant-loop-pair l = snap_of (drop l.pair-index l.pairs) l.handle ≡ snap_of l.pairs l.handle
