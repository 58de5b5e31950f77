use Rattle.std.proofs.Common.{◌-◌, length}
use Rattle.pybuf_lanes.proofs.Blocks.{IsRead}
use Rattle.pybuf_lanes.proofs.pairs.read_digits.Given as goal

abbrev pub invariant-loop-room : goal.invariant-loop-room
invariant-loop-room l = IsRead l.text l.room l.at

abbrev pub decreases-loop-room : goal.decreases-loop-room
decreases-loop-room l = length l.room - l.at
