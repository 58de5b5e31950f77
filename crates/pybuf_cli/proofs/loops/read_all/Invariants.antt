use Rattle.std.proofs.Common.{◌≤◌, ◌-◌, vec_len, vec_capacity}
use Rattle.pybuf_cli.specs.Devices.{Took}
use Rattle.pybuf_cli.proofs.loops.read_all.Given as goal

-- the bytes that were taken so far, how many they are, and that there is room for the rest
pub record Reads (Bytes Later Limit Room : Type 0) : Type 0 where
  pub bytes : Bytes
  pub later : Later
  pub limit : Limit
  pub room : Room

abbrev pub invariant-reading : goal.invariant-reading
invariant-reading g l =
    Reads
    (Took (g.S.Source.bytes_left l.fn.source) l.input.items (g.S.Source.bytes_left l.source))
    (g.S.Source.faults l.fn.source ≤ g.S.Source.faults l.source)
    (vec_len l.input ≤ 1048576)
    (1048577 ≤ vec_capacity l.input)

abbrev pub decreases-reading : goal.decreases-reading
decreases-reading g l = 1048577 - vec_len l.input
