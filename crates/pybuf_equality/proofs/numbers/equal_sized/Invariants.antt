use Rattle.std.proofs.Common.{◌≡◌, true}
use Rattle.pybuf_strided.specs.Apart.{place_of}
use Rattle.pybuf_equality.specs.Tracks.{all_below, same_number}
use Rattle.pybuf_equality.proofs.numbers.equal_sized.Given as goal

abbrev pub invariant-loop-k : goal.invariant-loop-k
invariant-loop-k g l =
    all_below (same_number l.bytes (place_of l.track.falls l.track.start l.track.step) l.signed g.row.SIZE l.other (place_of l.other_track.falls l.other_track.start l.other_track.step) l.other_signed g.row.OTHER_SIZE) l.k ≡ true
