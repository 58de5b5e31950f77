use Rattle.std.proofs.Common.{ℕ, take, drop, not, ap₂, sym, ◌∙◌}
use Rattle.std.specs.Prelude.{eqb, bytes_eq}
use Rattle.pybuf_strided.specs.Apart.{place_of}
use Rattle.pybuf_equality.specs.Tracks.{same_piece}
use Rattle.pybuf_equality.proofs.Below.{failed_below}
use Rattle.pybuf_equality.proofs.pieces.equal_unsized.Goals as goal

pub returns-then-not-equal_spans : goal.returns-then-not-equal_spans
returns-then-not-equal_spans g c =
    sym (failed_below (same_piece c.args.bytes.now (place_of (not (eqb g.row.FALLS 0)) c.args.track.start c.args.track.step) c.args.other.now (place_of (not (eqb g.row.OTHER_FALLS 0)) c.args.other_track.start c.args.other_track.step) c.args.size)
    c.loop-k.k c.args.count c.loop-k-test.true
    (ap₂ (λ (p q : ℕ). bytes_eq (take c.args.size (drop p c.args.bytes.now)) (take c.args.size (drop q c.args.other.now))) (sym c.place-at.ensures) (sym c.place-there.ensures) ∙ sym c.equal_spans.ensures ∙ c.if-not-equal_spans.true))
