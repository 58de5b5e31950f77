use Rattle.std.proofs.Common.{List, ℕ, subst}
use Rattle.std.specs.Prelude.{IfOk}
use Rattle.pybuf_desc.specs.Layouts.{Layout}
use Rattle.pybuf_desc.specs.Places.{Stands}
use Rattle.pybuf_desc.specs.ShapedCasts.{cast_to}
use Rattle.pybuf_desc.proofs.descriptor.BufferDescriptor.cast_shape.Goals as goal

pub returns-clause-stands : goal.returns-clause-stands
returns-clause-stands c =
    subst (λ (text : List ℕ). IfOk c.cast_shape_as.result (λ d. (start : ℕ) (view : Layout) → Stands c.args.self.now start view → Stands d start (cast_to view text c.args.itemsize c.args.shape.now)))
    c.from_text.ensures c.cast_shape_as.ensures.stands
