use Rattle.std.proofs.Common.{◌≡◌, map, drop}
use Rattle.pybuf_line.specs.Parts.{each}
use Rattle.pybuf_line.specs.Scalars.{handle_in}
use Rattle.pybuf_line.specs.Spellings.{slice_in}
use Rattle.pybuf_line.proofs.Spelled.{onto, each_of}
use Rattle.pybuf_line.proofs.spellings.slices_of.Given as goal

abbrev pub invariant-loop-part : goal.invariant-loop-part
invariant-loop-part l =
    each (slice_in handle_in) (map (λ part. part.now) l.parts) ≡ onto l.slices.items (each_of (slice_in handle_in) (drop l.part-index l.parts))
