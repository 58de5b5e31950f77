use Rattle.std.proofs.Common.{subst, w64}
use Rattle.std.proofs.lemmas.Int.{to_z-of_z}
use Rattle.pybuf_value.specs.Halting.{Gives}
use Rattle.pybuf_shaping.specs.Replacing.{replacement}
use Rattle.pybuf_shaping.proofs.replacing.replace.Goals as goal

pub returns : goal.returns
returns c =
    c.tried.ensures (replacement c.args.most c.args.old.now c.args.new.now c.args.bytes.now)
    (subst (λ n. Gives (replacement n c.args.old.now c.args.new.now c.args.bytes.now) c.replacement.result) (to_z-of_z w64 c.args.most c.ranges.most) c.replacement.ensures)
