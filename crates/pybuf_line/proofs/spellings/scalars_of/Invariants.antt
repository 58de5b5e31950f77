use Rattle.std.proofs.Common.{◌≡◌, map, drop}
use Rattle.pybuf_line.specs.Parts.{each}
use Rattle.pybuf_line.specs.Scalars.{scalar_in, handle_in}
use Rattle.pybuf_line.proofs.Spelled.{onto, each_of}
use Rattle.pybuf_line.proofs.spellings.scalars_of.Given as goal

abbrev pub invariant-loop-part : goal.invariant-loop-part
invariant-loop-part l =
    each (scalar_in handle_in) (map (λ part. part.now) l.parts) ≡ onto l.scalars.items (each_of (scalar_in handle_in) (drop l.part-index l.parts))
