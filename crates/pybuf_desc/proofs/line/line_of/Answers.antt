use Rattle.std.proofs.Common.{w64, pos, ap, ◌∙◌, refl}
use Rattle.std.specs.Prelude.{nat_abs}
use Rattle.std.specs.Int.Signed.{lt_z}
use Rattle.std.proofs.lemmas.Int.{to_z-of_z}
use Rattle.pybuf_desc.proofs.StepsOfLines.{by_track}
use Rattle.pybuf_desc.proofs.line.line_of.Goals as goal

pub returns : goal.returns
returns c =
    let same = to_z-of_z w64 c.args.stride c.ranges.stride in
    let track = by_track c.args.start c.args.stride c.args.count c.args.size c.unsigned_abs.result _
    (c.unsigned_abs.ensures.value ∙ ap nat_abs same) (ap (λ z. lt_z z (pos 0)) same) c.requires.inside in record {
      ranges = track.ranges;
      line = record { some = c.requires.some; low = track.low };
      count = refl;
    }
