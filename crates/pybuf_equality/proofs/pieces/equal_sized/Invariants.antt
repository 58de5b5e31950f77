use Rattle.std.proofs.Common.{◌≡◌, not, true}
use Rattle.std.specs.Prelude.{eqb}
use Rattle.pybuf_strided.specs.Apart.{place_of}
use Rattle.pybuf_equality.specs.Tracks.{all_below, same_piece}
use Rattle.pybuf_equality.proofs.pieces.equal_sized.Given as goal

abbrev pub invariant-loop-k : goal.invariant-loop-k
invariant-loop-k g l =
    all_below (same_piece l.bytes (place_of (not (eqb g.row.FALLS 0)) l.track.start l.track.step) l.other (place_of (not (eqb g.row.OTHER_FALLS 0)) l.other_track.start l.other_track.step) g.row.SIZE) l.k ≡ true
