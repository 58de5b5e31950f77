use Rattle.std.proofs.Common.{◌≡◌, ◌≤◌, ◌-◌, map, take, drop}
use Rattle.std.specs.Prelude.{false}
use Rattle.pybuf_line.specs.Parts.{parts_from}
use Rattle.pybuf_line.proofs.Cuts.{onto_parts}
use Rattle.pybuf_line.proofs.splitting.parts_outside.Given as goal

-- the parts so far, and the place of the one that is begun
pub record Cuts (Parts Within : Type 0) : Type 0 where
  pub parts : Parts
  pub within : Within

abbrev pub invariant-loop-i : goal.invariant-loop-i
invariant-loop-i l =
    Cuts
    (parts_from false l.text ≡
    onto_parts (map (λ part. part.now) l.parts.items) (take (l.i - l.start) (drop l.start l.text)) (parts_from l.quoted (drop l.i l.text)))
    (l.start ≤ l.i)
