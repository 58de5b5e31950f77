use Rattle.std.proofs.Common.{◌≡◌, length, ◌∙◌, arith}
use Rattle.pybuf_strided.specs.Apart.{place_of}
use Rattle.pybuf_equality.proofs.Rows.{none_differ}
use Rattle.pybuf_equality.proofs.Turned.{turned_inside, turned_tracks}
use Rattle.pybuf_equality.proofs.pieces.equal_pieces.Goals as goal

pub returns-then-size-eq0 : goal.returns-then-size-eq0
returns-then-size-eq0 c =
    none_differ c.args.bytes.now c.args.other.now (place_of c.args.track.falls c.args.track.start c.args.track.step) (place_of c.args.other_track.falls c.args.other_track.start c.args.other_track.step) c.args.size c.args.count
    (let none : c.args.size ≡ 0 = omega (arith, c.if-size-eq0.true) in none)

pub equal_turned-requires-clause-inside : goal.equal_turned-requires-clause-inside
equal_turned-requires-clause-inside c =
    turned_inside c.args.track.falls c.args.track.start c.args.track.step c.args.size c.args.count (length c.args.bytes.now) (c.is_turned.ensures.falls c.if-is_turned.true) (c.is_turned.ensures.step c.if-is_turned.true) c.requires.inside

pub equal_turned-requires-clause-other_inside : goal.equal_turned-requires-clause-other_inside
equal_turned-requires-clause-other_inside c =
    turned_inside c.args.other_track.falls c.args.other_track.start c.args.other_track.step c.args.size c.args.count (length c.args.other.now) (c.is_turned-then-is_turned.ensures.falls c.if-is_turned-2.true) (c.is_turned-then-is_turned.ensures.step c.if-is_turned-2.true) c.requires.other_inside

pub returns-then-is_turned-2 : goal.returns-then-is_turned-2
returns-then-is_turned-2 c =
    c.equal_turned.ensures
    ∙ turned_tracks c.args.bytes.now c.args.other.now c.args.track.falls c.args.other_track.falls c.args.track.start c.args.track.step c.args.other_track.start c.args.other_track.step c.args.size c.args.count
    (c.is_turned.ensures.falls c.if-is_turned.true) (c.is_turned.ensures.step c.if-is_turned.true) (c.is_turned-then-is_turned.ensures.falls c.if-is_turned-2.true) (c.is_turned-then-is_turned.ensures.step c.if-is_turned-2.true)
