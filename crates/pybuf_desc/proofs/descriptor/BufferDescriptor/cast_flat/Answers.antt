use Rattle.std.proofs.Common.{List, ℕ, subst}
use Rattle.pybuf_desc.specs.Places.{Stands}
use Rattle.pybuf_desc.specs.Casts.{cast_of}
use Rattle.pybuf_desc.proofs.descriptor.BufferDescriptor.cast_flat.Goals as goal

pub returns-clause-stands : goal.returns-clause-stands
returns-clause-stands c = λ start view stands.
    subst (λ (text : List ℕ). Stands c.cast_flat_as.result start (cast_of view text c.args.itemsize)) c.from_text.ensures (c.cast_flat_as.ensures.stands start view stands)
