use Rattle.std.proofs.Common.{ℕ, take, drop, false, ap₂, sym, ◌∙◌}
use Rattle.std.specs.Ordering.{int_eq}
use Rattle.pybuf_strided.specs.Apart.{place_of}
use Rattle.pybuf_struct.specs.Digits.{number}
use Rattle.pybuf_equality.specs.Tracks.{same_number}
use Rattle.pybuf_equality.proofs.Below.{failed_below, more_below}
use Rattle.pybuf_equality.proofs.numbers.equal_sized.Goals as goal

pub returns-then-not-equal_pair : goal.returns-then-not-equal_pair
returns-then-not-equal_pair g c =
    sym (failed_below (same_number c.args.bytes.now (place_of c.args.track.falls c.args.track.start c.args.track.step) c.args.signed g.row.SIZE c.args.other.now (place_of c.args.other_track.falls c.args.other_track.start c.args.other_track.step) c.args.other_signed g.row.OTHER_SIZE)
    c.loop-k.k c.args.count c.loop-k-test.true
    (ap₂ (λ (p q : ℕ). int_eq (number false c.args.signed (take g.row.SIZE (drop p c.args.bytes.now))) (number false c.args.other_signed (take g.row.OTHER_SIZE (drop q c.args.other.now)))) (sym c.place_on-at.ensures) (sym c.place_on-there.ensures)
    ∙ sym c.equal_pair.ensures ∙ c.if-not-equal_pair.true))

pub loop-k-preserved : goal.loop-k-preserved
loop-k-preserved g c =
    more_below (same_number c.args.bytes.now (place_of c.args.track.falls c.args.track.start c.args.track.step) c.args.signed g.row.SIZE c.args.other.now (place_of c.args.other_track.falls c.args.other_track.start c.args.other_track.step) c.args.other_signed g.row.OTHER_SIZE)
    c.loop-k.k c.loop-k.invariant
    (ap₂ (λ (p q : ℕ). int_eq (number false c.args.signed (take g.row.SIZE (drop p c.args.bytes.now))) (number false c.args.other_signed (take g.row.OTHER_SIZE (drop q c.args.other.now)))) (sym c.place_on-at.ensures) (sym c.place_on-there.ensures)
    ∙ sym c.equal_pair.ensures ∙ c.if-not-equal_pair.false)
