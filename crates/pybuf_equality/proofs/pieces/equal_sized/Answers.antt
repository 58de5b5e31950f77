use Rattle.std.proofs.Common.{ℕ, take, drop, not, ap₂, sym, ◌∙◌}
use Rattle.std.specs.Prelude.{eqb, bytes_eq}
use Rattle.pybuf_strided.specs.Apart.{place_of}
use Rattle.pybuf_equality.specs.Tracks.{same_piece}
use Rattle.pybuf_equality.proofs.Below.{failed_below}
use Rattle.pybuf_equality.proofs.pieces.equal_sized.Goals as goal

pub returns-then-not-equal_words : goal.returns-then-not-equal_words
returns-then-not-equal_words g c =
    sym (failed_below (same_piece c.args.bytes.now (place_of (not (eqb g.row.FALLS 0)) c.args.track.start c.args.track.step) c.args.other.now (place_of (not (eqb g.row.OTHER_FALLS 0)) c.args.other_track.start c.args.other_track.step) g.row.SIZE)
    c.loop-k.k c.args.count c.loop-k-test.true
    (ap₂ (λ (p q : ℕ). bytes_eq (take g.row.SIZE (drop p c.args.bytes.now)) (take g.row.SIZE (drop q c.args.other.now))) (sym c.place-at.ensures) (sym c.place-there.ensures) ∙ sym c.equal_words.ensures ∙ c.if-not-equal_words.true))
